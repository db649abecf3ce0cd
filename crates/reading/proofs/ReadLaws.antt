-- The lines of an input, one after the other.
use mathlib.Core.Path.{◌≡◌, refl, sym, ap, subst, ◌∙◌}
use mathlib.Core.Bool.{Bool, true, false}
use mathlib.Core.List.{List, [], ◌∷◌, map}
use mathlib.Core.Option.{Option, none, some}
use Prim.Native.Nat.{ℕ, zero, suc, ◌+◌, ◌-◌, ◌<◌, ◌≤◌}
use native.Mathlib.Omega.{arith}
use native.Mathlib.Numerals.{add-one}
use borrow.Author.Tests.{lt-ltb, le-leb, lt-leb, ltb-true, ltb-false, ne_eqb}
use lib.Dec.{leb, ltb, eqb}
use lib.ListN.{length, get_or}
use lib.Seq.{length-slice, slice_empty}
use Rattle.model.specs.Basics.{◌&◌, choose}
use Rattle.model.proofs.Basics.Tests.{no_some, some_inj}
use Rattle.model.specs.Wrapper.{all_sides}
use Rattle.format.specs.Lines.{newline, to_first, pieces, Line, line_of, Input, on_line, no_input, with_line, fault, whole, read_from, reading, so_far, read_so_far}
use Rattle.format.specs.Bytes.{slice, index_of}
use Rattle.reading.specs.declared.Places.{Places}
use Rattle.std.specs.declared.result.Result.{Result}
use Rattle.std.specs.declared.result.Result.TheVariants.{Ok, Err}
use Rattle.std.specs.Option.{ok_or}
use Rattle.reading.specs.declared.Fault.{Fault}
use Rattle.std.specs.declared.option.Option as code
use Rattle.std.specs.declared.option.Option.TheVariants.{Some, None}
use Rattle.reading.specs.Fields.{option_of, short, line_end, ended, after_line}
use Rattle.reading.specs.Lists.{Lists, places_of, reading_of, places_in, Holds, AfterIs, ReadIs}
use Rattle.reading.proofs.PieceLaws as part
use Rattle.reading.proofs.EndLaws.{end_fits, ended_yes, ended_no}
use Rattle.reading.proofs.LaidLaws.{laid_none}
use Rattle.reading.proofs.AnswerLaws.{same_lists}
use Rattle.reading.proofs.LetterLaws.{with_line_lem}

-- a list has a first piece
some_step : (b : ℕ) (t : Bool) (ps : List (List ℕ)) → (m : List ℕ) × (ms : List (List ℕ)) × (ps ≡ m ∷ ms) → (m : List ℕ) × (ms : List (List ℕ)) × (choose t ([] ∷ ps) (to_first b ps) ≡ m ∷ ms)
unfolding choose to_first
some_step b true ps x = ([], ps, refl)
some_step b false ps x = (b ∷ x.0, x.1, rw x.2)

some_piece : (c : ℕ) (l : List ℕ) → (m : List ℕ) × (ms : List (List ℕ)) × (pieces c l ≡ m ∷ ms)
unfolding pieces
some_piece c [] = ([], [], refl)
some_piece c (b ∷ bs) = some_step b (eqb b c) (pieces c bs) (some_piece c bs)

-- a line with its newline
line_none : (n : ℕ) (i : Input) (f m : List ℕ) (ms : List (List ℕ)) → with_line i f ≡ none → read_from n i (f ∷ m ∷ ms) ≡ fault n
unfolding read_from
line_none n i f m ms e = rw (e, read_from)

line_some : (n : ℕ) (i j : Input) (f m : List ℕ) (ms : List (List ℕ)) → with_line i f ≡ some j → read_from n i (f ∷ m ∷ ms) ≡ read_from (suc n) j (m ∷ ms)
unfolding read_from
line_some n i j f m ms e = rw (e, read_from)

so_far_none : (i : Input) (f m : List ℕ) (ms : List (List ℕ)) → with_line i f ≡ none → so_far i (f ∷ m ∷ ms) ≡ i
unfolding so_far
so_far_none i f m ms e = rw (e, so_far)

so_far_some : (i j : Input) (f m : List ℕ) (ms : List (List ℕ)) → with_line i f ≡ some j → so_far i (f ∷ m ∷ ms) ≡ so_far j (m ∷ ms)
unfolding so_far
so_far_some i j f m ms e = rw (e, so_far)

so_far_last : (i : Input) (f : List ℕ) → so_far i (f ∷ []) ≡ i
unfolding so_far
so_far_last i f = refl

-- what stands behind the last newline: nothing, or a line without its newline
module _ (n : ℕ) (i : Input) where
  no_line : i.rank ≡ 0 → read_from n i ([] ∷ []) ≡ fault n
  unfolding read_from ◌&◌ choose
  no_line z = rw z refl

  no_more : (i.rank ≡ 0 → ⊥) → read_from n i ([] ∷ []) ≡ whole i
  unfolding read_from ◌&◌ choose
  no_more z = rw (lt-ltb 0 i.rank (omega (arith, z))) refl

  no_newline : (f : List ℕ) → 0 < length f → read_from n i (f ∷ []) ≡ fault n
  unfolding read_from ◌&◌ choose
  no_newline f h = rw (ne_eqb (length f) 0 (λ e. omega arith)) refl

-- an answer of a line, taken apart
gave_none : (i : Input) (o : Option Input) (r : code.Option Places) (old new : Lists) → r ≡ None → AfterIs i o r old new → (o ≡ none) × Holds i old new
gave_none i none r old new e a = (refl, a.holds)
gave_none i (some j) r old new e a =
    let k : none ≡ some (places_of j) = ap option_of (sym e) ∙ a.places in
    absurd (no_some k)

gave_some : (i : Input) (o : Option Input) (r : code.Option Places) (p : Places) (old new : Lists) → r ≡ Some p → AfterIs i o r old new → (j : Input) × (o ≡ some j) × (p ≡ places_of j) × Holds j old new
gave_some i none r p old new e a =
    let k : none ≡ some p = sym a.places ∙ ap option_of e in
    absurd (no_some k)
gave_some i (some j) r p old new e a = (j, refl, some_inj (ap option_of (sym e) ∙ a.places), a.holds)

-- the lines before line n give i, and the others are still to be read
pub record SoFar (s : List ℕ) (n : ℕ) (rest : List (List ℕ)) (i : Input) : Type 0 where
  pub verdict : reading s ≡ read_from n i rest
  pub given : read_so_far s ≡ so_far i rest

-- the answers from what the lines give
abbrev at_line : (n : ℕ) → Places → Result Places Fault
at_line n p = Err (record { line = n; places = p })

answered : (s : List ℕ) (r : Result Places Fault) (i : Input) (old new : Lists) → reading_of r i ≡ reading s → read_so_far s ≡ i → places_in r ≡ places_of i → Holds i old new → ReadIs s r old new
answered s r i old new e g q h = record { verdict = ap (reading_of r) g ∙ e; places = q ∙ ap places_of (sym g); holds = subst (λ (x : Input). Holds x old new) (sym g) h }

-- before the first line, and an input that is too long
no_counts : (ns : List ℕ) (k : ℕ) → ◌≡◌ {A = ℕ} (get_or (map (λ n. 0) ns) k 0) 0
no_counts [] k = refl
no_counts (n ∷ ns) zero = refl
no_counts (n ∷ ns) (suc k) = no_counts ns k

pub holds_none : (l : Lists) → Holds no_input l l
holds_none l =
    let z = no_counts all_sides in
    record {
      tables = refl;
      inside = record { nodes = λ k. omega (arith, z k); fives = λ k. rw (z k) refl; pools = λ k. omega (arith, z k); steps = omega arith; step_words = omega arith };
      lists = same_lists _ _ _ _ _ _ (sym (laid_none 1285 0 all_sides l.nodes)) (sym (laid_none 1025 0 all_sides l.pools)) refl;
    }

pub too_long : (s : List ℕ) (p : Places) (l : Lists) → 65536 < length s → p ≡ places_of no_input → ReadIs s (at_line 0 p) l l
unfolding reading read_so_far choose
too_long s p l h q =
    let f : leb (length s) 65536 ≡ false = lt-leb (length s) 65536 h in
    let r : reading s ≡ fault 0 = rw f in
    let g : read_so_far s ≡ no_input = rw f in
    answered s (at_line 0 p) no_input l l (sym r) g q (holds_none l)

pub before_lines : (s : List ℕ) → length s ≤ 65536 → SoFar s 1 (pieces newline (slice 0 (length s) s)) no_input
unfolding reading read_so_far choose
before_lines s h = record { verdict = rw (le-leb (length s) 65536 h, part.whole s); given = rw (le-leb (length s) 65536 h, part.whole s) }

-- line n of an input, from place `at` on, where the lines before it give i
module _ (s : List ℕ) (at n : ℕ) (i : Input) (up : at ≤ length s) (so_far_lem : SoFar s n (pieces newline (slice at (length s) s)) i) where
  abbrev end : ℕ
  end = line_end at s

  abbrev own : List ℕ
  own = slice at end s

  found : end ≡ at + index_of newline (slice at (length s) s)
  unfolding line_end
  found = refl

  -- the line with its newline, and others behind it
  more : end < length s → (m : List ℕ) × (ms : List (List ℕ)) × (pieces newline (slice (end + 1) (length s) s) ≡ m ∷ ms) × SoFar s n (own ∷ m ∷ ms) i
  more h =
      let x = some_piece newline (slice (end + 1) (length s) s) in
      let e = part.next newline s at (length s) end up (omega arith) found h ∙ ap (λ (ps : List (List ℕ)). own ∷ ps) x.2 in
      (x.0, x.1, x.2, subst (λ (ps : List (List ℕ)). SoFar s n ps i) e so_far_lem)

  -- the line without one
  last : end ≡ length s → SoFar s n (own ∷ []) i
  last h = subst (λ (ps : List (List ℕ)). SoFar s n ps i) (part.last newline s at (length s) end up (omega arith) found h) so_far_lem

  -- what it gives
  abbrev given : Option Input
  given = after_line i (ended at s (short (line_of own)))

  is_given : end < length s → with_line i own ≡ given
  is_given h = with_line_lem i own ∙ ap (after_line i) (sym (ended_yes at s _ h))

  none_given : end ≡ length s → given ≡ none
  none_given h = ap (after_line i) (ended_no at s _ (omega (arith, h)))

  size : end ≡ length s → length own ≡ length s - at
  unfolding slice
  size h = length-slice at end s (omega (arith, h)) ∙ ap (λ (k : ℕ). k - at) h

  pub line_refused : (p : Places) (old l : Lists) → at < length s → p ≡ places_of i → Holds i old l → given ≡ none → ReadIs s (at_line n p) old l
  line_refused p old l inside q h none_there = go (ltb end (length s)) refl
    where
      go : (b : Bool) → ltb end (length s) ≡ b → ReadIs s (at_line n p) old l
      go true e =
          let m = ltb-true end (length s) e in
          let x = more m in
          let w = is_given m ∙ none_there in
          answered s (at_line n p) i old l (sym (x.3.verdict ∙ line_none n i _ x.0 x.1 w)) (x.3.given ∙ so_far_none i _ x.0 x.1 w) q h
      go false e =
          let m : end ≡ length s = omega (arith, ltb-false end (length s) e, end_fits s at up) in
          let x = last m in
          answered s (at_line n p) i old l (sym (x.verdict ∙ no_newline n i own (omega (arith, size m)))) (x.given ∙ so_far_last i own) q h

  -- the next line begins behind its end
  line_taken : (j : Input) (e : ℕ) → e ≡ end → given ≡ some j → (at ≤ e) × (e < length s) × SoFar s (n + 1) (pieces newline (slice (e + 1) (length s) s)) j
  line_taken j e is some_there =
      let some-newline : end ≡ length s → ⊥ = λ q. no_some (sym (none_given q) ∙ some_there) in
      let h : end < length s = omega (arith, some-newline, end_fits s at up) in
      let x = more h in
      let w = is_given h ∙ some_there in
      let rest : pieces newline (slice (e + 1) (length s) s) ≡ x.0 ∷ x.1 = ap (λ (k : ℕ). pieces newline (slice (k + 1) (length s) s)) is ∙ x.2 in
      let z : SoFar s (suc n) (x.0 ∷ x.1) j = record { verdict = x.3.verdict ∙ line_some n i j _ x.0 x.1 w; given = x.3.given ∙ so_far_some i j _ x.0 x.1 w } in
      (omega (arith, is, found), omega (arith, is, h), rw (add-one, rest) z)

  -- the same from the answer for a line c
  module _ (c : Line) (r : code.Option Places) (p : Places) (old new : Lists) (view : some c ≡ ended at s (short (line_of own))) (a : AfterIs i (on_line i c) r old new) where
    pub line_fault : at < length s → p ≡ places_of i → r ≡ None → ReadIs s (at_line n p) old new
    line_fault inside q e = let y = gave_none i _ r old new e a in line_refused p old new inside q y.1 (ap (after_line i) (sym view) ∙ y.0)

    pub next_line : (e : ℕ) → e ≡ end → r ≡ Some p →
        (at ≤ e) × (e < length s) × ((j : Input) × (p ≡ places_of j) × Holds j old new × SoFar s (n + 1) (pieces newline (slice (e + 1) (length s) s)) j)
    next_line e is was =
        let y = gave_some i _ r p old new was a in
        let t = line_taken y.0 e is (ap (after_line i) (sym view) ∙ y.1) in
        (t.0, t.1, (y.0, y.2, y.3, t.2))

  -- behind the last newline there is nothing
  module _ (e : at ≡ length s) where
    none_left : pieces newline (slice at (length s) s) ≡ [] ∷ []
    unfolding pieces slice
    none_left = ap (pieces newline) (ap (λ (k : ℕ). slice at k s) (sym e) ∙ slice_empty at s)

    so_far_all : read_so_far s ≡ i
    so_far_all = so_far_lem.given ∙ ap (so_far i) none_left ∙ so_far_last i []

    reading_all : reading s ≡ read_from n i ([] ∷ [])
    reading_all = so_far_lem.verdict ∙ ap (read_from n i) none_left

    module _ (p : Places) (old l : Lists) (g : p ≡ places_of i) (h : Holds i old l) where
      same_rank : p.rank ≡ i.rank
      same_rank = ap (λ (x : Places). x.rank) g

      pub nothing_read : p.rank ≡ 0 → ReadIs s (at_line n p) old l
      nothing_read z = answered s (at_line n p) i old l (sym (reading_all ∙ no_line n i (sym same_rank ∙ z))) so_far_all g h

      pub all_read : (p.rank ≡ 0 → ⊥) → ReadIs s (Ok p) old l
      all_read z = answered s (Ok p) i old l (sym (reading_all ∙ no_more n i (λ q. z (same_rank ∙ q)))) so_far_all g h

-- the error that `ok_or` gives for nothing
pub err_is : {T : Type 0} (o : code.Option T) (f e : Fault) → o ≡ None → ◌≡◌ {A = Result T Fault} (Err e) (ok_or o f) → e ≡ f
err_is {T} o f e n q =
    let z : ◌≡◌ {A = Result T Fault} (Err e) (Err f) = q ∙ ap (λ (x : code.Option T). ok_or x f) n in
    cc
