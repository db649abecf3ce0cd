-- A value that may enter has no new names.
use mathlib.Core.Path.{◌≡◌, refl, sym, ap, ◌∙◌, subst}
use mathlib.Core.Bool.{Bool, true, not, false≢true}
use mathlib.Core.List.{List, [], ◌∷◌, map}
use mathlib.Core.Logic.{⊎_elim}
use Prim.Native.Nat.{ℕ, ◌<◌, ◌≤◌}
use native.Mathlib.Omega.{arith}
use borrow.Author.Tests.{eqb-true, eq-eqb}
use lib.Dec.{eqb, T}
use Rattle.calculus.specs.Transitions.{mem, names, Out∉}
use Rattle.calculus.proofs.Restriction.{Eachn}
use Rattle.calculus.proofs.FreeNames.{mem_cases, or_cases, or_left, or_right}
use Rattle.model.specs.Basics.{◌or◌, done, every}
use Rattle.model.specs.Values.{is_minted, is_name, items}
use Rattle.model.specs.Side.{State, side}
use Rattle.model.specs.Load.{Composition, wrapper_of}
use Rattle.model.specs.Step.{known}
use Rattle.model.specs.Process.{val_of, keep, new_of, minted_of, own_name}
use Rattle.model.proofs.Basics.Tests.{alt}
use Rattle.model.proofs.Processes.ValueWords.{worded, val_written, names_words}
use Rattle.model.proofs.Basics.Names.{minted_range}
use Rattle.model.proofs.Processes.KnownNames.{every_mem, is_true, out_of, own_low, minted_high, minted_is, keep_out}
use Rattle.model.proofs.Sound.NamesLeaving.{no_word}
use Rattle.calculus.proofs.Parallels.{T_true}

pub eachn_of : (L N : List ℕ) → ((x : ℕ) → T (mem x N) → Out∉ L x) → Eachn (Out∉ L) N
eachn_of L [] h = tt
eachn_of L (x ∷ N) h = (h x (or_left (eqb x x) (mem x N) (is_true (eqb x x) (eq-eqb x x refl))), eachn_of L N (λ z m. h z (or_right (eqb z x) (mem z N) m)))

module _ (b : Composition) (s : State) (few : (n : ℕ) → (side s n).core.contents.minted ≤ 256) (ws : List ℕ) (y : ℕ) (ly : y < 81)
    (iv : items is_name 11 ws 1 ≡ done []) (wv : every worded ws ≡ true) (kv : every (λ x. not (is_minted x) or known s x) ws ≡ true) where
  in_words : (x : ℕ) → x < 4000000 → T (mem x (names (val_of ws))) → T (mem x ws)
  in_words x l m = subst (λ (c : Bool). T c) (names_words x l (val_of ws) ∙ ap (mem x) (val_written ws iv)) m

  no_own : (x : ℕ) → T (mem x (map own_name (wrapper_of b).sides)) → T (mem x (y ∷ names (val_of ws))) → ⊥
  no_own x o m = let w = own_low b s x o in ⊎_elim (λ a. let q = eqb-true x y (T_true (eqb x y) a) in omega (arith, w.0))
      (λ a. no_word x (omega (arith, w.0)) (omega (arith, w.1)) (every_mem worded ws x wv (in_words x (omega (arith, w.1)) a))) (or_cases (eqb x y) (mem x (names (val_of ws))) m)

  no_minted : (x : ℕ) → T (mem x (minted_of s)) → not (known s x) ≡ true → T (mem x (y ∷ names (val_of ws))) → ⊥
  no_minted x i n m =
      let h = minted_high b s x i in let mi = minted_is s few x i in
      let may : x < 4000000 → T (mem x (names (val_of ws))) → not (is_minted x) or known s x ≡ true = λ l a. every_mem (λ x. not (is_minted x) or known s x) ws x kv (in_words x l a) in
      ⊎_elim (λ a. let q = eqb-true x y (T_true (eqb x y) a) in omega arith)
      (λ a. ⊎_elim (λ p. false≢true (sym (ap not mi) ∙ p)) (λ p. false≢true (sym (ap not p) ∙ n)) (alt _ _ (may (omega (arith, (minted_range x mi).1)) a)))
      (or_cases (eqb x y) (mem x (names (val_of ws))) m)

  pub enter_fresh : Eachn (Out∉ (y ∷ names (val_of ws))) (new_of b s)
  unfolding new_of
  enter_fresh = eachn_of (y ∷ names (val_of ws)) (new_of b s) (λ x m. out_of x (y ∷ names (val_of ws)) (λ t.
      ⊎_elim (λ o. no_own x o t) (λ k. let r = keep_out (λ x. not (known s x)) (minted_of s) x k in no_minted x r.0 r.1 t) (mem_cases x (map own_name (wrapper_of b).sides) (keep (λ x. not (known s x)) (minted_of s)) m)))
