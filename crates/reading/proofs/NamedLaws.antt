-- The side that an N or a V line names, and the words that it adds there.
use mathlib.Core.Path.{◌≡◌, refl, sym, ap, ◌∙◌}
use mathlib.Core.Bool.{Bool, true, false}
use mathlib.Core.List.{List, [], ◌∷◌}
use mathlib.Core.Option.{none, some}
use Prim.Native.Nat.{ℕ, zero, suc, ◌+◌, ◌-◌, ◌*◌, ◌<◌, ◌≤◌}
use native.Mathlib.Omega.{arith}
use borrow.Author.Tests.{leb-true, lt-ltb, le-ltb, ltb-true, eq-eqb, ne_eqb, eqb-true}
use lib.ListN.{length, get_or, take, drop, set}
use lib.Seq.{sets}
use Rattle.std.specs.declared.option.Option.TheVariants.{Some, None}
use Rattle.model.specs.Basics.{choose}
use Rattle.model.specs.Wrapper.{all_sides}
use Rattle.model.proofs.Basics.Tests.{fst, snd, both, some_inj}
use Rattle.format.specs.Lines.{when}
use Rattle.reading.specs.Lists.{adds, AddIs}
use Rattle.reading.proofs.TestLaws.{first_fails, second_fails, inside, below, above}
use Rattle.reading.proofs.AnswerLaws.{first_of, others_of, size_of}

-- the first of some words is no greater than that of all
first_le : (len : ℕ) (ws : List ℕ) → get_or (take len ws) 0 0 ≤ get_or ws 0 0
first_le zero ws = omega arith
first_le (suc n) [] = omega arith
first_le (suc n) (w ∷ ws) = omega arith

-- a line's first `len` words, by the tests of the code
module _ (size wide : ℕ) (counts : List ℕ) (len : ℕ) (ws : List ℕ) (full : length ws ≡ 21) (some_words : 0 < size) (few : size < 21) where
  abbrev Adds : Bool → Type 0
  Adds b = adds size wide counts (take len ws) ≡ b

  pub by_zero : get_or ws 0 0 ≡ 0 → Adds false
  unfolding adds
  by_zero z = second_fails _ _ (first_fails _ _ (below 1 (length all_sides) (get_or (take len ws) 0 0) (omega (arith, first_le len ws))))

  pub by_size : (len ≡ size → ⊥) → Adds false
  unfolding adds
  by_size e = first_fails _ _ (ne_eqb (length (take len ws)) size (λ q. e (omega (arith, size_of len ws full))))

  module _ (e : len ≡ size) where
    first : get_or (take len ws) 0 0 ≡ get_or ws 0 0
    first = first_of len ws (omega arith)

    pub by_side : length all_sides < get_or ws 0 0 → Adds false
    unfolding adds
    by_side m = second_fails _ _ (first_fails _ _ (above 1 (length all_sides) (get_or (take len ws) 0 0) (omega (arith, first))))

    pub by_room : wide ≤ get_or counts (get_or ws 0 0 - 1) 0 → Adds false
    unfolding adds
    by_room m =
        second_fails _ _ (second_fails _ _ (le-ltb (get_or counts (get_or (take len ws) 0 0 - 1) 0) wide (omega (arith, ap (λ (n : ℕ). get_or counts (n - 1) 0) first))))

    pub by_all : 0 < get_or ws 0 0 → get_or ws 0 0 ≤ length all_sides → get_or counts (get_or ws 0 0 - 1) 0 < wide → Adds true
    unfolding adds
    by_all a b m =
        both _ _ (eq-eqb (length (take len ws)) size (omega (arith, size_of len ws full)))
        (both _ _ (inside 1 (length all_sides) (get_or (take len ws) 0 0) (omega (arith, first)) (omega (arith, first)))
        (lt-ltb (get_or counts (get_or (take len ws) 0 0 - 1) 0) wide (omega (arith, ap (λ (n : ℕ). get_or counts (n - 1) 0) first))))

    -- the answer then, where s is the place of the side
    pub words_added : (s : ℕ) (old new : List ℕ) → 0 < get_or ws 0 0 → s ≡ get_or ws 0 0 - 1 → s < length all_sides → get_or counts s 0 < wide → new ≡ sets old (wide * s + get_or counts s 0) (take (size - 1) (drop 1 ws)) →
        AddIs size wide counts (take len ws) old new (Some (set counts s (get_or counts s 0 + (size - 1))))
    unfolding choose
    words_added s old new a q b m put =
        let t : adds size wide counts (take len ws) ≡ true = by_all a (omega arith) (rw q at m) in
        let p : get_or (take len ws) 0 0 - 1 ≡ s = omega (arith, first) in
        let others : take (size - 1) (drop 1 ws) ≡ drop 1 (take len ws) = others_of size ws some_words ∙ ap (λ (n : ℕ). drop 1 (take n ws)) (sym e) in
        record { counts_after = rw (t, p) refl; list = rw (t, p) (put ∙ ap (sets old (wide * s + get_or counts s 0)) others) }

-- nothing is added
pub nothing_added : (size wide : ℕ) (counts ns old : List ℕ) → adds size wide counts ns ≡ false → AddIs size wide counts ns old old None
unfolding choose
nothing_added size wide counts ns old e = record { counts_after = rw e refl; list = rw e refl }

-- WHAT AN ANSWER TELLS
when_none : {A : Type 0} (b : Bool) (x : A) → none ≡ when b x → b ≡ false
unfolding choose
when_none true x e =
    let z : ◌≡◌ {A = ℕ} 0 1 = cc in
    absurd (omega arith)
when_none false x e = refl

when_some : {A : Type 0} (b : Bool) (x y : A) → some y ≡ when b x → (b ≡ true) × (y ≡ x)
unfolding choose
when_some true x y e = (refl, some_inj e)
when_some false x y e =
    let z : ◌≡◌ {A = ℕ} 0 1 = cc in
    absurd (omega arith)

-- the side that a line names has room
pub record Names (size wide : ℕ) (counts ns : List ℕ) (s : ℕ) : Type 0 where
  pub sized : length ns ≡ size
  pub number : get_or ns 0 0 ≡ suc s
  pub place : s < length all_sides
  pub room : get_or counts s 0 < wide

module _ (size wide : ℕ) (counts ns old new : List ℕ) where
  pub not_added : AddIs size wide counts ns old new None → (adds size wide counts ns ≡ false) × (new ≡ old)
  unfolding choose
  not_added a =
      let e = when_none _ _ a.counts_after in
      (e, a.list ∙ rw e refl)

  pub added : (after : List ℕ) → AddIs size wide counts ns old new (Some after) →
      (s : ℕ) × Names size wide counts ns s × (after ≡ set counts s (get_or counts s 0 + (size - 1))) × (new ≡ sets old (wide * s + get_or counts s 0) (drop 1 ns))
  unfolding choose adds
  added after a =
      let e = when_some _ _ _ a.counts_after in
      let b = snd _ _ e.0 in
      let c = fst _ _ b in
      let low = leb-true 1 (get_or ns 0 0) (fst _ _ c) in
      let top = leb-true (get_or ns 0 0) (length all_sides) (snd _ _ c) in
      (get_or ns 0 0 - 1, record { sized = eqb-true (length ns) size (fst _ _ e.0); number = omega arith; place = omega arith; room = ltb-true _ wide (snd _ _ b) }, e.1, a.list ∙ rw (e.0) refl)

-- a line of another size adds nothing
pub another_size : (size wide : ℕ) (counts ns : List ℕ) → (length ns ≡ size → ⊥) → adds size wide counts ns ≡ false
unfolding adds
another_size size wide counts ns e = first_fails _ _ (ne_eqb (length ns) size e)
