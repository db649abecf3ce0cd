-- An unfolded process has an output with a value over 16 words only where the calculus' handler has one.
use mathlib.Core.Path.{◌≡◌, refl, sym, ap, ap₂, ◌∙◌}
use mathlib.Core.Bool.{Bool, true, false, cond, false≢true}
use mathlib.Core.List.{List, [], ◌∷◌, ◌++◌}
use mathlib.Core.Option.{none, some}
use Prim.Native.Nat.{ℕ, zero, suc, ◌+◌, ◌*◌}
use native.Mathlib.Omega.{arith}
use borrow.Author.Tests.{ltb-false, le-leb}
use lib.Dec.{eqb}
use lib.ListN.{length, length-append}
use Rattle.calculus.specs.Syntax.{Val, Vals, nm, vnil, vcons, vsub, vsubs}
use Rattle.calculus.specs.Named.{named, value_or, with_pat}
use Rattle.model.specs.Basics.{done, every}
use Rattle.model.specs.Values.{items, is_tuple, is_public, arity, Env, extend, value, substitute, word}
use Rattle.model.specs.Table.{Table, Term}
use Rattle.model.specs.Side.{Contents, output, input}
use Rattle.model.specs.Unfolding.{tag_of, add_box, mint, unfolds}
use Rattle.model.specs.WellFormed.{Counts, wf_value}
use Rattle.model.specs.Step.{short}
use Rattle.model.specs.Process.{vwords, vcount, vswords, reads, head_v, val_of, code_of, env_of}
use Rattle.model.specs.Agreement.{long}
use Rattle.model.proofs.Basics.Tests.{every_append, every_one, or_none}
use Rattle.model.proofs.Formed.Keeping.{done_inj}
use Rattle.model.proofs.Basics.Items.{clash, items_leaf, items_tuple, items_bad, tuple_not_public}
use Rattle.model.proofs.Basics.Environments.{Sized, sized_extend, look_append}
use Rattle.model.proofs.Basics.Checked.{Sits, s_nil, s_par, s_box, s_new, s_out, s_inp}
use Rattle.model.proofs.Processes.ValueWords.{reads_tuple, reads_name, write_back, val_written, split_words}
use Rattle.model.proofs.Sound.Substitutions.{shape_value, env_value, first_sub, behind_sub}

-- names stand for values of as many words
abbrev pub Lengths : Env → (ℕ → Val ℕ) → Type 0
Lengths ρ π = (x : ℕ) → is_public x ≡ true → length (value ρ x) ≡ length (vwords (π x))

pub env_lengths : (k : Counts) (ρ : Env) → every (wf_value k) ρ.vals ≡ true → Lengths ρ (env_of ρ)
env_lengths k ρ h x p = ap length (sym (val_written (value ρ x) (shape_value k ρ h x p)) ∙ ap vwords (sym (env_value k ρ h x p)))

lengths_new : (ρ : Env) (π : ℕ → Val ℕ) (x w : ℕ) → Sized ρ → Lengths ρ π → Lengths (extend ρ (x ∷ []) ((w ∷ []) ∷ [])) (with_pat (named x) (λ z. nm 0) π)
lengths_new ρ π x w l h y p = ap length (look_append ρ.names ρ.vals (x ∷ []) ((w ∷ []) ∷ []) y (y ∷ []) l) ∙ go (eqb x y)
  where
    go : (b : Bool) → length (cond b (w ∷ []) (value ρ y)) ≡ length (vwords (value_or {B = Unit {0}} (λ z. nm 0) (cond b (some tt) none) (π y)))
    go true = refl
    go false = h y p

module _ (ρ : Env) (π : ℕ → Val ℕ) (h : Lengths ρ π) where
  -- substituted words and substituted values are as long
  words_length : (v : List ℕ) (n : ℕ) → items is_public 5 v n ≡ done [] → length (substitute ρ v) ≡ length (vswords (vsubs (reads v n) π))
  unfolding items reads
  words_length [] n e = refl
  words_length (w ∷ ws) zero e = let z : suc (length ws) ≡ 0 = ap length (done_inj e) in absurd (omega arith)
  words_length (w ∷ ws) (suc n) e = go (is_public w) refl (is_tuple w) refl (words_length ws n) (words_length ws (arity w + n))
    where
      go : (t : Bool) → is_public w ≡ t → (u : Bool) → is_tuple w ≡ u → (items is_public 5 ws n ≡ done [] → length (substitute ρ ws) ≡ length (vswords (vsubs (reads ws n) π)))
          → (items is_public 5 ws (arity w + n) ≡ done [] → length (substitute ρ ws) ≡ length (vswords (vsubs (reads ws (arity w + n)) π))) → length (substitute ρ (w ∷ ws)) ≡ length (vswords (vsubs (reads (w ∷ ws) (suc n)) π))
      go true a true b f g = absurd (false≢true (sym (tuple_not_public w b) ∙ a))
      go true a false b f g =
          ap (λ (t : Bool). length (cond t (value ρ w) (w ∷ []) ++ substitute ρ ws)) a ∙ length-append (value ρ w) (substitute ρ ws)
          ∙ ap₂ (λ (x y : ℕ). x + y) (h w a) (f (sym (items_leaf is_public 5 w ws n a) ∙ e)) ∙ sym (length-append (vwords (π w)) (vswords (vsubs (reads ws n) π)))
          ∙ sym (ap (λ (x : Vals ℕ). length (vswords (vsubs x π))) (reads_name w ws n b))
      go false a true b f g =
          let W = reads ws (arity w + n) in
          ap (λ (t : Bool). length (cond t (value ρ w) (w ∷ []) ++ substitute ρ ws)) a
          ∙ ap suc (g (sym (items_tuple is_public 5 w ws n a b) ∙ e) ∙ ap length (sym (split_words (arity w) (vsubs W π)) ∙ ap₂ (λ (x y : Vals ℕ). vswords x ++ vswords y) (first_sub (arity w) W π) (behind_sub (arity w) W π)))
          ∙ sym (ap (λ (x : Vals ℕ). length (vswords (vsubs x π))) (reads_tuple w ws n b))
      go false a false b f g = absurd (clash (sym (items_bad is_public 5 w ws n a b) ∙ e))

  pub value_length : (v : List ℕ) → items is_public 5 v 1 ≡ done [] → length (substitute ρ v) ≡ length (vwords (vsub (val_of v) π))
  unfolding val_of
  value_length v e = words_length v 1 e ∙ go (reads v 1) (write_back is_public 5 tuple_not_public v 1 e).1
    where
      go : (vs : Vals ℕ) → vcount vs ≡ 1 → length (vswords (vsubs vs π)) ≡ length (vwords (vsub (head_v vs) π))
      go vnil q = absurd (omega arith)
      go (vcons v vnil) q = omega (arith, length-append (vwords (vsub v π)) [])
      go (vcons v (vcons u vs)) q = absurd (omega arith)

-- no long output in the handler: none among the particles
pub short_unless_long : {t : Table} {σ : List ℕ} {a : Term} → Sits t σ a → (ρ : Env) (π : ℕ → Val ℕ) → Sized ρ → Lengths ρ π → (i b : ℕ) (s : Contents) → every short s.particles ≡ true →
    long (code_of a) π ≡ false → every short (unfolds i a ρ b s).particles ≡ true
unfolding unfolds code_of
short_unless_long s_nil ρ π l h i b s e q = e
short_unless_long (s_par {a = x} {b = y} p r) ρ π l h i b s e q =
    let o = or_none (long (code_of x) π) (long (code_of y) π) q in
    short_unless_long r ρ π l h i b (unfolds i x ρ b s) (short_unless_long p ρ π l h i b s e o.0) o.1
short_unless_long (s_box {x = x} px p) ρ π l h i b s e q = short_unless_long p ρ π l h i (length s.boxes) (add_box s (word ρ x) b) e q
short_unless_long (s_new {x = x} pn p) ρ π l h i b s e q =
    short_unless_long p (extend ρ (x ∷ []) (((65536 * i + s.minted) ∷ []) ∷ [])) (with_pat (named x) (λ z. nm 0) π) (sized_extend ρ (x ∷ []) (((65536 * i + s.minted) ∷ []) ∷ []) refl l)
    (lengths_new ρ π x (65536 * i + s.minted) l h) i b (mint s) e q
short_unless_long (s_out {c = c} {g = g} {v = v} pc pg iv lv) ρ π l h i b s e q =
    every_append short s.particles (output b (word ρ c) (tag_of ρ g) (substitute ρ v) ∷ []) e (every_one short (output b (word ρ c) (tag_of ρ g) (substitute ρ v))
    (let z = ltb-false 16 (length (vwords (vsub (val_of v) π))) q in le-leb (length (substitute ρ v)) 16 (omega (arith, z, value_length ρ π h v iv))))
short_unless_long (s_inp {n = n} pc pg ip pd ln kn tm sc a) ρ π l h i b s e q = every_append short s.particles (input b n ρ.vals ∷ []) e (every_one short (input b n ρ.vals) refl)
