-- A line's numbers, one after the other, and lines of more than 21 numbers.
use mathlib.Core.Path.{◌≡◌, refl, sym, ap, ap₂, ◌∙◌}
use mathlib.Core.Bool.{Bool, true, false}
use mathlib.Core.List.{List, [], ◌∷◌, ◌++◌, append_assoc, append-nil}
use mathlib.Core.Option.{Option, none, some}
use Prim.Native.Nat.{ℕ, ◌+◌, ◌-◌, ◌<◌, ◌≤◌}
use native.Mathlib.Omega.{arith}
use native.Mathlib.Numerals.{add-one}
use borrow.Author.Tests.{le-leb, lt-leb, leb-true, leb-false, eq-eqb, ne_eqb}
use lib.Dec.{leb, ltb, eqb}
use lib.ListN.{length, get_or, take, drop, set, length-append, length-take}
use lib.Seq.{take-suc-set, slice-cons, length-slice}
use Rattle.model.specs.Basics.{choose}
use Rattle.format.specs.Lines.{tab, pieces, number, numbers, Line, line_of}
use Rattle.format.specs.Bytes.{slice, index_of}
use Rattle.reading.proofs.PieceLaws.{last, next, first}
use Rattle.reading.proofs.EndLaws.{end_up, end_fits, end_behind, field_end, field_fits, at_newline, before_newline}
use Rattle.std.specs.Prelude.{IfSome}
use Rattle.std.specs.declared.option.Option as code
use Rattle.std.specs.declared.option.Option.TheVariants.{Some, None}
use Rattle.reading.specs.declared.fields.Line as fields
use Rattle.reading.specs.Fields.{short_line, short, line_with, line_end, ended, LineEnds}
use Rattle.delimiters.specs.Delimiters.{delimiter_from}
use Rattle.delimiters.proofs.SliceLaws.{take_of_drop}

abbrev pub line : ℕ → List ℕ → Line
line c ns = record { letter = c; words = ns }

pub is_short_lem : (c : ℕ) (ns : List ℕ) → length ns ≤ 21 → short_line (line c ns) ≡ some (line c ns)
unfolding short_line choose
is_short_lem c ns h = rw (le-leb (length ns) 21 h)

pub is_long : (c : ℕ) (ns : List ℕ) → 21 < length ns → short_line (line c ns) ≡ none
unfolding short_line choose
is_long c ns h = rw (lt-leb (length ns) 21 h)

-- one number more, in the array or past it
module _ (c n w : ℕ) (ws : List ℕ) (full : length ws ≡ 21) (few : n ≤ 21) where
  longer : length (take n ws ++ (w ∷ [])) ≡ n + 1
  longer = omega (arith, length-append (take n ws) (w ∷ []), length-take n ws)

  pub push_in : n < 21 → short_line (line c (take n ws ++ (w ∷ []))) ≡ some (line c (take (n + 1) (set ws n w)))
  push_in h =
      let e : take (n + 1) (set ws n w) ≡ take n ws ++ (w ∷ []) = rw add-one (take-suc-set ws n w (omega arith)) in
      is_short_lem c (take n ws ++ (w ∷ [])) (omega (arith, longer)) ∙ sym (ap (λ (l : List ℕ). some (line c l)) e)

  pub push_out : n ≡ 21 → short_line (line c (take n ws ++ (w ∷ []))) ≡ none
  push_out e = is_long c (take n ws ++ (w ∷ [])) (omega (arith, longer))

-- a line with one number more, where it is still short
abbrev pub pushed : ℕ → Option Line → Option Line
pushed w none = none
pushed w (some l) = short_line (line l.letter (l.words ++ (w ∷ [])))

-- a line with some numbers more, none where there are none
abbrev pub after : Option Line → Option (List ℕ) → Option Line
after none ns = none
after (some l) none = none
after (some l) (some ns) = short_line (line l.letter (l.words ++ ns))

after_none : (v : Option Line) → after v none ≡ none
after_none none = refl
after_none (some l) = refl

-- numbers behind one number more
after_push : (n : ℕ) (l : Line) (ns : List ℕ) → after (some l) (some (n ∷ ns)) ≡ after (pushed n (some l)) (some ns)
after_push n l ns = go (leb (length (l.words ++ (n ∷ []))) 21) refl
  where
    sum : (l.words ++ (n ∷ [])) ++ ns ≡ l.words ++ (n ∷ ns)
    sum = append_assoc l.words (n ∷ []) ns

    go : (b : Bool) → leb (length (l.words ++ (n ∷ []))) 21 ≡ b → after (some l) (some (n ∷ ns)) ≡ after (pushed n (some l)) (some ns)
    go true e = sym (ap (λ (x : Option Line). after x (some ns)) (is_short_lem l.letter _ (leb-true _ 21 e)) ∙ ap (λ (x : List ℕ). short_line (line l.letter x)) sum)
    go false e =
        let long = leb-false (length (l.words ++ (n ∷ []))) 21 e in
        is_long l.letter (l.words ++ (n ∷ ns)) (omega (arith, long, length-append l.words (n ∷ []), length-append l.words (n ∷ ns)))
        ∙ sym (ap (λ (x : Option Line). after x (some ns)) (is_long l.letter _ long))

-- the numbers of some fields, the first of which is n
abbrev consed : ℕ → Option (List ℕ) → Option (List ℕ)
consed n none = none
consed n (some ns) = some (n ∷ ns)

numbers_none : (f : List ℕ) (fs : List (List ℕ)) → number f ≡ none → numbers (f ∷ fs) ≡ none
unfolding numbers
numbers_none f fs e = rw (e, numbers)

numbers_some : (f : List ℕ) (fs : List (List ℕ)) (n : ℕ) → number f ≡ some n → numbers (f ∷ fs) ≡ consed n (numbers fs)
unfolding numbers
numbers_some f fs n e = rw (e, numbers) (go (numbers fs))
  where
    go : (o : Option (List ℕ)) → elim o [ none ↦ none | some ns ↦ some (n ∷ ns) ] ≡ consed n o
    go none = refl
    go (some ns) = refl

after_consed : (n : ℕ) (v : Option Line) (o : Option (List ℕ)) → after v (consed n o) ≡ after (pushed n v) o
after_consed n none o = refl
after_consed n (some l) none = sym (after_none (pushed n (some l)))
after_consed n (some l) (some ns) = after_push n l ns

-- a line before its first number
pub before_all : (c : ℕ) (o : Option (List ℕ)) → short (line_with c o) ≡ after (line_with c (some [])) o
before_all c none = refl
before_all c (some ns) = refl

-- a field that is no number
no_number : (v : Option Line) (f : List ℕ) (fs : List (List ℕ)) → number f ≡ none → after v (numbers (f ∷ fs)) ≡ none
no_number v f fs e = ap (after v) (numbers_none f fs e) ∙ after_none v

-- a field that is a number, with others behind it, or the last
a_number : (v : Option Line) (f : List ℕ) (fs : List (List ℕ)) (n : ℕ) → number f ≡ some n → after v (numbers (f ∷ fs)) ≡ after (pushed n v) (numbers fs)
a_number v f fs n e = ap (after v) (numbers_some f fs n e) ∙ after_consed n v (numbers fs)

pushed_whole : (n : ℕ) (v : Option Line) → after (pushed n v) (some []) ≡ pushed n v
pushed_whole n none = refl
pushed_whole n (some l) = go (leb (length (l.words ++ (n ∷ []))) 21) refl
  where
    go : (b : Bool) → leb (length (l.words ++ (n ∷ []))) 21 ≡ b → after (pushed n (some l)) (some []) ≡ pushed n (some l)
    go true e =
        let p : pushed n (some l) ≡ some (line l.letter (l.words ++ (n ∷ []))) = is_short_lem l.letter _ (leb-true _ 21 e) in
        ap (λ (x : Option Line). after x (some [])) p ∙ ap (λ (x : List ℕ). short_line (line l.letter x)) (append-nil (l.words ++ (n ∷ [])))
    go false e =
        let p : pushed n (some l) ≡ none = is_long l.letter _ (leb-false _ 21 e) in
        ap (λ (x : Option Line). after x (some [])) p ∙ sym p

last_number : (v : Option Line) (f : List ℕ) (n : ℕ) → number f ≡ some n → after v (numbers (f ∷ [])) ≡ pushed n v
unfolding numbers
last_number v f n e = a_number v f [] n e ∙ pushed_whole n v

-- a line by its pieces
abbrev of_pieces : List (List ℕ) → Option Line
of_pieces ps = elim ps [
  | [] ↦ none
  | f ∷ fs ↦ elim (eqb (length f) 1) [
    | false ↦ none
    | true ↦ elim (numbers fs) [ none ↦ none | some ns ↦ some (line (get_or f 0 0) ns) ]
  ]
]

of_pieces_lem : (l f : List ℕ) (fs : List (List ℕ)) → pieces tab l ≡ f ∷ fs → line_of l ≡ of_pieces (f ∷ fs)
unfolding line_of
of_pieces_lem l f fs e = ap of_pieces e

no_letter : (l f : List ℕ) (fs : List (List ℕ)) → pieces tab l ≡ f ∷ fs → (length f ≡ 1 → ⊥) → short (line_of l) ≡ none
no_letter l f fs e h = let n : line_of l ≡ none = of_pieces_lem l f fs e ∙ rw (ne_eqb (length f) 1 h, of_pieces) in ap short n

a_letter : (l f : List ℕ) (fs : List (List ℕ)) (c : ℕ) → pieces tab l ≡ f ∷ fs → length f ≡ 1 → get_or f 0 0 ≡ c → line_of l ≡ line_with c (numbers fs)
a_letter l f fs c e h g = of_pieces_lem l f fs e ∙ rw (eq-eqb (length f) 1 h, of_pieces) (go (numbers fs))
  where
    go : (o : Option (List ℕ)) → elim o [ none ↦ none | some ns ↦ some (line (get_or f 0 0) ns) ] ≡ line_with c o
    go none = refl
    go (some ns) = ap (λ (x : ℕ). some (line x ns)) g

-- the line from a place on, whose first field ends at q
module _ (s : List ℕ) (at q : ℕ) (up : at ≤ length s) (is : q ≡ delimiter_from at s) where
  abbrev end : ℕ
  end = line_end at s

  found : q ≡ at + index_of tab (slice at end s)
  found = is ∙ field_end s at up

  pub inside : (at ≤ q) × (q ≤ end) × (end ≤ length s)
  inside = (omega (arith, found), omega (arith, is, field_fits s at up), end_fits s at up)

  -- there ends the input, or the line, or a field before others
  pub to_newline : (q ≡ length s → ⊥) → get_or s q 0 ≡ 10 → q ≡ end
  to_newline n e = is ∙ at_newline s at up (omega (arith, is, n, inside.1, inside.2)) (ap (λ (k : ℕ). get_or s k 0) (sym is) ∙ e)

  pub to_tab : (q ≡ length s → ⊥) → (get_or s q 0 ≡ 10 → ⊥) → q < end
  to_tab n e =
      let h = before_newline s at up (omega (arith, is, n, inside.1, inside.2)) (λ z. e (ap (λ (k : ℕ). get_or s k 0) is ∙ z)) in
      omega (arith, is, h)

  -- the same line behind a field
  pub same_end : q < end → line_end (q + 1) s ≡ end
  same_end h = end_behind s at q inside.0 h up

  -- the field as the code has it
  pub field_is : take (q - at) (drop at s) ≡ slice at q s
  unfolding slice
  field_is = take_of_drop at (q - at) s ∙ ap (λ (k : ℕ). drop at (take k s)) (omega (arith, inside.0))

  module _ (v : Option Line) where
    pub field_bad : number (slice at q s) ≡ none → after v (numbers (pieces tab (slice at end s))) ≡ none
    field_bad e =
        let f = first tab s at end q (end_up s at up) inside.2 found inside.1 in
        ap (λ (ps : List (List ℕ)). after v (numbers ps)) f.1 ∙ no_number v _ f.0 e

    module _ (n : ℕ) (e : number (slice at q s) ≡ some n) where
      -- one number too many
      pub field_full : pushed n v ≡ none → after v (numbers (pieces tab (slice at end s))) ≡ none
      field_full p =
          let f = first tab s at end q (end_up s at up) inside.2 found inside.1 in
          ap (λ (ps : List (List ℕ)). after v (numbers ps)) f.1 ∙ a_number v _ f.0 n e ∙ ap (λ (x : Option Line). after x (numbers f.0)) p

      pub field_last : q ≡ end → after v (numbers (pieces tab (slice at end s))) ≡ pushed n v
      field_last h = ap (λ (ps : List (List ℕ)). after v (numbers ps)) (last tab s at end q (end_up s at up) inside.2 found h) ∙ last_number v _ n e

      pub field_next : q < end → (u : Option Line) → u ≡ pushed n v → after v (numbers (pieces tab (slice at end s))) ≡ after u (numbers (pieces tab (slice (q + 1) (line_end (q + 1) s) s)))
      field_next h u p =
          let rest = pieces tab (slice (q + 1) end s) in
          ap (λ (ps : List (List ℕ)). after v (numbers ps)) (next tab s at end q (end_up s at up) inside.2 found h) ∙ a_number v _ rest n e
          ∙ ap₂ (λ (x : Option Line) (k : ℕ). after x (numbers (pieces tab (slice (q + 1) k s)))) (sym p) (sym (same_end h))

  -- its first field is its letter
  size : length (slice at q s) ≡ q - at
  unfolding slice
  size = length-slice at q s (omega (arith, inside.1, inside.2))

  letter : q - at ≡ 1 → get_or (slice at q s) 0 0 ≡ get_or s at 0
  unfolding slice
  letter e = ap (λ (l : List ℕ). get_or l 0 0) (slice-cons at q s 0 (omega arith) (omega (arith, inside.1, inside.2)))

  pub line_bad : (q - at ≡ 1 → ⊥) → short (line_of (slice at end s)) ≡ none
  line_bad k =
      let f = first tab s at end q (end_up s at up) inside.2 found inside.1 in
      no_letter _ _ f.0 f.1 (λ e. k (sym size ∙ e))

  pub line_alone : q ≡ end → q - at ≡ 1 → short (line_of (slice at end s)) ≡ line_with (get_or s at 0) (some [])
  unfolding numbers
  line_alone h k =
      ap short (a_letter _ _ [] (get_or s at 0) (last tab s at end q (end_up s at up) inside.2 found h) (size ∙ k) (letter k)) ∙ is_short_lem (get_or s at 0) [] (omega arith)

  pub line_numbers : q < end → q - at ≡ 1 → short (line_of (slice at end s)) ≡ short (line_with (get_or s at 0) (numbers (pieces tab (slice (q + 1) (line_end (q + 1) s) s))))
  line_numbers h k =
      ap short (a_letter _ _ _ (get_or s at 0) (next tab s at end q (end_up s at up) inside.2 found h) (size ∙ k) (letter k))
      ∙ ap (λ (n : ℕ). short (line_with (get_or s at 0) (numbers (pieces tab (slice (q + 1) n s))))) (sym (same_end h))

-- a line from another place on, with the same end
pub ended_same : (from at : ℕ) (s : List ℕ) (l : Option Line) → line_end at s ≡ line_end from s → ended at s l ≡ ended from s l
unfolding ended
ended_same from at s l e = ap (λ (k : ℕ). choose (ltb k (length s)) l none) e

pub ends_same : (from at : ℕ) (s : List ℕ) (r : code.Option fields.Line) → line_end at s ≡ line_end from s → IfSome r (LineEnds at s) → IfSome r (LineEnds from s)
ends_same from at s None e h = h
ends_same from at s (Some l) e h = (h.0 ∙ e, h.1)
