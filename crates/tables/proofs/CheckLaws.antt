-- All the checks of a table, in order.
use mathlib.Core.Path.{◌≡◌, refl, sym, ap, ◌∙◌}
use mathlib.Core.Bool.{Bool, true, false}
use Rattle.std.specs.Prelude.{Option, Some, None, Result, Ok, Err}
use Prim.Native.Nat.{ℕ, zero, suc, ◌<◌, ◌≤◌}
use native.Mathlib.Omega.{arith}
use borrow.Author.Tests.{leb-true}
use Rattle.model.specs.Basics.{choose, Res, refuse, is_done}
use Rattle.model.specs.Table.{Table, count}
use Rattle.model.specs.Checks.{Fault, found, fault, check1, over_all, first_bad, check2, check3, check4, check5}
use Rattle.model.proofs.Basics.Tests.{fst, snd}
use Rattle.model.proofs.Basics.Checked.{Checked, no_bad, is_tree}
use Rattle.tables.specs.declared.checks.Cause.{Cause}
use Rattle.tables.specs.declared.checks.Cause.TheVariants as cause
use Rattle.tables.specs.declared.checks.Fault.{Fault as Found}
use Rattle.tables.specs.Scope.{Walks}
use Rattle.tables.specs.Checks.{number_of, lowest_of, fault_of, fault_if, Passes}

-- what is left to be checked after k
unfoldable pub after : ℕ → Table → Res Fault
after zero t = fault t
after (suc zero) t = found (first_bad (check2 t) (count t) 0) 2 (found (first_bad (check3 t) (count t) 0) 3 (found (first_bad (check4 t) (count t) 0) 4 (found (first_bad (check5 t) (count t) 0) 5 (found (over_all t) 6 (refuse 0)))))
after (suc (suc zero)) t = found (first_bad (check3 t) (count t) 0) 3 (found (first_bad (check4 t) (count t) 0) 4 (found (first_bad (check5 t) (count t) 0) 5 (found (over_all t) 6 (refuse 0))))
after (suc (suc (suc zero))) t = found (first_bad (check4 t) (count t) 0) 4 (found (first_bad (check5 t) (count t) 0) 5 (found (over_all t) 6 (refuse 0)))
after (suc (suc (suc (suc zero)))) t = found (first_bad (check5 t) (count t) 0) 5 (found (over_all t) 6 (refuse 0))
after (suc (suc (suc (suc (suc k))))) t = found (over_all t) 6 (refuse 0)

-- what is known of a check where a fault was found, and where none was
found_at : (c : Cause) (o : Option ℕ) (q : Res ℕ) (r : Res Fault) (f : Found) → lowest_of o ≡ q → fault_if c o ≡ Err f → fault_of (Err f) ≡ found q (number_of c) r
unfolding found
found_at c (Some n) q r f z e = sym (ap fault_of e) ∙ ap (λ (x : Res ℕ). found x (number_of c) r) z
found_at c None q r f z e = absurd (differ (sym e))
  where
    differ : ◌≡◌ {A = Result Unit Found} (Err f) (Ok tt) → ⊥
    differ e = cc

none_at : (c : Cause) (o : Option ℕ) (v : Unit) → fault_if c o ≡ Ok v → lowest_of o ≡ refuse 0
none_at c (Some n) v e = cc
none_at c None v e = refl

found_not : (q : Res ℕ) (k : ℕ) (r : Res Fault) → q ≡ refuse 0 → found q k r ≡ r
unfolding found
found_not q k r z = ap (λ (x : Res ℕ). found x k r) z

-- the tests passed so far
pub record PassedTo (t : Table) (k : ℕ) : Type 0 where
  pub so : fault t ≡ after k t
  pub size : check1 t ≡ true
  pub p2 : 2 ≤ k → first_bad (check2 t) (count t) 0 ≡ refuse 0
  pub p3 : 3 ≤ k → first_bad (check3 t) (count t) 0 ≡ refuse 0
  pub p4 : 4 ≤ k → first_bad (check4 t) (count t) 0 ≡ refuse 0
  pub p5 : 5 ≤ k → first_bad (check5 t) (count t) 0 ≡ refuse 0

module _ (t : Table) where
  pub size_bad : check1 t ≡ false → fault_of (Err (record { cause = cause.Size; node = 0 })) ≡ fault t
  unfolding fault choose
  size_bad e = rw (fault, e)

  pub pass1 : check1 t ≡ true → PassedTo t 1
  unfolding fault choose after
  pass1 e = record { so = rw e; size = e; p2 = λ h. absurd (omega arith); p3 = λ h. absurd (omega arith); p4 = λ h. absurd (omega arith); p5 = λ h. absurd (omega arith) }

  pub pass2 : (o : Option ℕ) (v : Unit) → PassedTo t 1 → lowest_of o ≡ first_bad (check2 t) (count t) 0 → fault_if cause.Kind o ≡ Ok v → PassedTo t 2
  unfolding after
  pass2 o v p z h =
      let e = sym z ∙ none_at cause.Kind o v h in
      record { so = p.so ∙ found_not _ _ _ e; size = p.size; p2 = λ h. e; p3 = λ h. absurd (omega arith); p4 = λ h. absurd (omega arith); p5 = λ h. absurd (omega arith) }

  pub pass3 : (o : Option ℕ) (v : Unit) → PassedTo t 2 → lowest_of o ≡ first_bad (check3 t) (count t) 0 → fault_if cause.Child o ≡ Ok v → PassedTo t 3
  unfolding after
  pass3 o v p z h =
      let e = sym z ∙ none_at cause.Child o v h in
      record { so = p.so ∙ found_not _ _ _ e; size = p.size; p2 = λ h. p.p2 (omega arith); p3 = λ h. e; p4 = λ h. absurd (omega arith); p5 = λ h. absurd (omega arith) }

  pub pass4 : (o : Option ℕ) (v : Unit) → PassedTo t 3 → lowest_of o ≡ first_bad (check4 t) (count t) 0 → fault_if cause.Name o ≡ Ok v → PassedTo t 4
  unfolding after
  pass4 o v p z h =
      let e = sym z ∙ none_at cause.Name o v h in
      record { so = p.so ∙ found_not _ _ _ e; size = p.size; p2 = λ h. p.p2 (omega arith); p3 = λ h. p.p3 (omega arith); p4 = λ h. e; p5 = λ h. absurd (omega arith) }

  pub pass5 : (o : Option ℕ) (v : Unit) → PassedTo t 4 → lowest_of o ≡ first_bad (check5 t) (count t) 0 → fault_if cause.Place o ≡ Ok v → PassedTo t 5
  unfolding after
  pass5 o v p z h =
      let e = sym z ∙ none_at cause.Place o v h in
      record { so = p.so ∙ found_not _ _ _ e; size = p.size; p2 = λ h. p.p2 (omega arith); p3 = λ h. p.p3 (omega arith); p4 = λ h. p.p4 (omega arith); p5 = λ h. e }

  pub fail2 : (o : Option ℕ) (f : Found) → PassedTo t 1 → lowest_of o ≡ first_bad (check2 t) (count t) 0 → fault_if cause.Kind o ≡ Err f → fault_of (Err f) ≡ fault t
  unfolding after
  fail2 o f p z e = found_at cause.Kind o _ _ f z e ∙ sym p.so

  pub fail3 : (o : Option ℕ) (f : Found) → PassedTo t 2 → lowest_of o ≡ first_bad (check3 t) (count t) 0 → fault_if cause.Child o ≡ Err f → fault_of (Err f) ≡ fault t
  unfolding after
  fail3 o f p z e = found_at cause.Child o _ _ f z e ∙ sym p.so

  pub fail4 : (o : Option ℕ) (f : Found) → PassedTo t 3 → lowest_of o ≡ first_bad (check4 t) (count t) 0 → fault_if cause.Name o ≡ Err f → fault_of (Err f) ≡ fault t
  unfolding after
  fail4 o f p z e = found_at cause.Name o _ _ f z e ∙ sym p.so

  pub fail5 : (o : Option ℕ) (f : Found) → PassedTo t 4 → lowest_of o ≡ first_bad (check5 t) (count t) 0 → fault_if cause.Place o ≡ Err f → fault_of (Err f) ≡ fault t
  unfolding after
  fail5 o f p z e = found_at cause.Place o _ _ f z e ∙ sym p.so

  -- the last check says what is left
  pub last6 : (o : Option ℕ) (r : Result Unit Found) → PassedTo t 5 → lowest_of o ≡ over_all t → r ≡ fault_if cause.Scope o → fault_of r ≡ fault t
  unfolding after found
  last6 o r p z e = ap fault_of e ∙ go o z ∙ sym p.so
    where
      go : (o : Option ℕ) → lowest_of o ≡ over_all t → fault_of (fault_if cause.Scope o) ≡ found (over_all t) 6 (refuse 0)
      go (Some n) z = ap (λ (x : Res ℕ). found x 6 (refuse 0)) z
      go None z = ap (λ (x : Res ℕ). found x 6 (refuse 0)) z

  -- what check 1 says, and that a table that passes 2 to 5 is a tree
  pub few : check1 t ≡ true → count t ≤ 256
  unfolding check1
  few e = leb-true (count t) 256 (fst _ _ (snd _ _ (snd _ _ e)))

  some : check1 t ≡ true → 1 ≤ count t
  unfolding check1
  some e = leb-true 1 (count t) (fst _ _ (snd _ _ e))

  all : (f : ℕ → Bool) → first_bad f (count t) 0 ≡ refuse 0 → (n : ℕ) → n < count t → f n ≡ true
  all f z n l = no_bad f (count t) 0 0 z n (omega arith) (omega arith)

  pub checked_by : PassedTo t 5 → Checked t
  checked_by p = record { c2 = all _ (p.p2 (omega arith)); c3 = all _ (p.p3 (omega arith)); c4 = all _ (p.p4 (omega arith)); c5 = all _ (p.p5 (omega arith)); some = some p.size }

  pub walks_root : PassedTo t 5 → Walks t 0
  walks_root p = record { tree = is_tree t (checked_by p); inside = some p.size }

-- what the answer of `check` says
pub passed : (t : Table) (r : Result Unit Found) (v : Unit) → fault_of r ≡ fault t → r ≡ Ok v → Passes t
passed t r v e z = ap is_done (sym e ∙ ap fault_of z)
