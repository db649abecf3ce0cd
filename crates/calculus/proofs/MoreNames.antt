-- Transitions under any more known names: the same but for the choice of the names that an output frees.
use mathlib.Core.Path.{◌≡◌, refl, sym, ◌∙◌, ap, subst, subst₂}
use mathlib.Core.Logic.{◌⊎◌, inl, inr}
use mathlib.Core.List.{List, [], ◌∷◌, ◌++◌, map}
use mathlib.Core.Bool.{Bool, true, false, ◌||◌}
use Prim.Native.Nat.{ℕ}
use lib.Dec.{eqb, T, eqb→eq}
use Rattle.calculus.specs.Syntax.{Proc, ren}
use Rattle.calculus.specs.Transitions.{Label, tau, send, recv, Participants, In, mem, Out∉, lnames, Step}
use Rattle.calculus.proofs.Renaming.{ren_id, ren_ren, AllN-map}
use Rattle.calculus.proofs.Equivariance.{lren, lnames_ren, mem_ren, step_ren}
use Rattle.calculus.proofs.FreeNames.{mem_right, step_source}
use Rattle.calculus.proofs.Restriction.{Perm, swap, swap_x, swap_swap, swap_fix, map_fix, inj_of, lren_lren, lren_id}
use Rattle.calculus.proofs.Members.{step_members, SameMembers}
use Rattle.calculus.proofs.KnownNames.{out_left, out_right, fresh, bool_same, in_more, weaken, weaken_recv, IsRecv, ren_fix}

-- a transition with the names of C known too: those of B stay, and so do those that an input receives
pub record Freed {M : Type 0} (B C : List ℕ) (P : Proc M []) (l : Label) (w : Participants M) (R : Proc M []) : Type 0 where
  pub perm : Perm
  pub keeps : (z : ℕ) → In B z → perm.to z ≡ z
  pub heard : IsRecv l → (z : ℕ) → T (mem z (lnames l)) → perm.to z ≡ z
  pub step : Step (C ++ B) P (lren l perm.to) w (ren {r = []} R perm.to)

-- a name that is known already
known_already : (A : List ℕ) (c : ℕ) → In A c → SameMembers A (c ∷ A)
known_already A c h z = bool_same (mem z A) (mem z (c ∷ A)) (in_more A c z) (λ k. go (eqb z c) refl k)
  where
    go : (b : Bool) → eqb z c ≡ b → T (b || mem z A) → In A z
    go true e k = subst (In A) (sym (eqb→eq z c (subst T (sym e) tt))) h
    go false e k = k

-- an input stays one under a renaming
input_or_not : (l : Label) (f : ℕ → ℕ) → (IsRecv l × IsRecv (lren l f)) ⊎ (IsRecv l → ⊥)
input_or_not tau f = inr (λ h. h)
input_or_not (send x o v) f = inr (λ h. h)
input_or_not (recv x o v) f = inl (tt, tt)

-- a permutation, and then two names exchanged
swap_after : ℕ → ℕ → Perm → Perm
swap_after x y q = record {
  to = λ z. swap x y (q.to z);
  back = λ z. q.back (swap x y z);
  to_back = λ z. ap (swap x y) (q.to_back (swap x y z)) ∙ swap_swap x y z;
  back_to = λ z. ap q.back (swap_swap x y (q.to z)) ∙ q.back_to z;
}

-- ONE NAME MORE
module _ {M : Type 0} {B C : List ℕ} {P R : Proc M []} {l : Label} {w : Participants M} (c : ℕ) (h : Freed B C P l w R) where
  abbrev label : Label
  label = lren l h.perm.to

  with_step : Step (c ∷ (C ++ B)) P label w (ren {r = []} R h.perm.to) → Freed B (c ∷ C) P l w R
  with_step d = record { perm = h.perm; keeps = h.keeps; heard = h.heard; step = d }

  -- an output that frees c frees a fresh name instead
  module _ (hc : Out∉ (C ++ B) c) (n : IsRecv l → ⊥) (u : ℕ) (hu : Out∉ (C ++ B) u) (hl : Out∉ (lnames label) u) where
    abbrev f : ℕ → ℕ
    f = swap u c

    inj : (x y : ℕ) → eqb (f x) (f y) ≡ eqb x y
    inj = inj_of f f (swap_swap u c)

    fix : (z : ℕ) → In (C ++ B) z → f z ≡ z
    fix = swap_fix (C ++ B) u c hu hc

    renamed : Step (C ++ B) P (lren label f) w (ren {r = []} (ren {r = []} R h.perm.to) f)
    renamed = subst₂ (λ A Q. Step A Q (lren label f) w (ren {r = []} (ren {r = []} R h.perm.to) f))
        (map_fix (C ++ B) f fix) (ren_fix P f (AllN-map P fix (step_source h.step))) (step_ren f inj h.step)

    gone : Out∉ (lnames (lren label f)) c
    gone = ap (mem c) (lnames_ren label f) ∙ ap (λ z. mem z (map f (lnames label))) (sym (swap_x u c)) ∙ mem_ren f inj u (lnames label) ∙ hl

    with_swap : Freed B (c ∷ C) P l w R
    unfolding swap_after
    with_swap = record {
      perm = swap_after u c h.perm;
      keeps = λ z k. ap f (h.keeps z k) ∙ fix z (mem_right z C B k);
      heard = λ r z k. absurd (n r);
      step = subst₂ (λ k Q. Step (c ∷ (C ++ B)) P k w Q) (lren_lren l h.perm.to f) (ren_ren {q = []} [] R h.perm.to f) (weaken c hc gone renamed);
    }

  one_more : Freed B (c ∷ C) P l w R
  one_more = go (mem c (C ++ B)) (mem c (lnames label)) refl refl (input_or_not l h.perm.to)
    where
      go : (a b : Bool) → mem c (C ++ B) ≡ a → mem c (lnames label) ≡ b → (IsRecv l × IsRecv label) ⊎ (IsRecv l → ⊥) → Freed B (c ∷ C) P l w R
      go true b e k r = with_step (step_members h.step (c ∷ (C ++ B)) (known_already (C ++ B) c (subst T (sym e) tt)))
      go false false e k r = with_step (weaken c e k h.step)
      go false true e k (inl r) = with_step (weaken_recv h.step c r.1 (subst T (sym k) tt))
      go false true e k (inr n) =
          let u = fresh ((C ++ B) ++ lnames label) in
          with_swap e n u.0 (out_left u.0 (C ++ B) (lnames label) u.1) (out_right u.0 (C ++ B) (lnames label) u.1)

pub more_names : {M : Type 0} {B : List ℕ} {P R : Proc M []} {l : Label} {w : Participants M} (C : List ℕ) → Step B P l w R → Freed B C P l w R
more_names {B = B} {P} {R} {l} {w} [] d = record {
  perm = record { to = λ z. z; back = λ z. z; to_back = λ z. refl; back_to = λ z. refl };
  keeps = λ z k. refl;
  heard = λ r z k. refl;
  step = subst₂ (λ k Q. Step B P k w Q) (sym (lren_id l)) (sym (ren_id R)) d;
}
more_names (c ∷ C) d = one_more c (more_names C d)
