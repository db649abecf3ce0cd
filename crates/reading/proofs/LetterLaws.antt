-- W lines, and lines by their letter.
use mathlib.Core.Path.{◌≡◌, refl, sym, ap, ◌∙◌}
use mathlib.Core.Bool.{Bool, true, false}
use mathlib.Core.List.{List}
use mathlib.Core.Option.{Option, none, some}
use Prim.Native.Nat.{ℕ, ◌<◌}
use native.Mathlib.Omega.{arith}
use borrow.Author.Tests.{leb-true, leb-false, eq-eqb, ne_eqb}
use lib.Dec.{leb}
use lib.ListN.{length, get_or, take}
use Rattle.model.specs.Basics.{choose}
use Rattle.format.specs.Lines.{Line, Input, line_of, on_w, on_n, on_v, on_s, on_line, with_line}
use Rattle.reading.specs.declared.Places.{Places}
use Rattle.std.specs.declared.option.Option as code
use Rattle.std.specs.declared.option.Option.TheVariants.{Some, None}
use Rattle.reading.specs.Fields.{short_line, short, after_line}
use Rattle.reading.specs.Lists.{Lists, places_of, Holds, AfterIs}
use Rattle.model.proofs.Basics.Tests.{both}
use Rattle.reading.proofs.LineLaws.{is_short_lem, is_long}
use Rattle.reading.proofs.TestLaws.{first_fails, second_fails, above, passes, fails, same_either}
use Rattle.reading.proofs.AnswerLaws.{is_fault, is_next, places, first_of, size_of}
use Rattle.reading.proofs.NamedLaws.{another_size}
use Rattle.reading.proofs.SideLaws.{n_none, v_none}
use Rattle.reading.proofs.StepLaws.{s_none}

-- a W line
module _ (i : Input) (p : Places) (old l : Lists) (at : p ≡ places_of i) (h : Holds i old l) (len : ℕ) (ws : List ℕ) (full : length ws ≡ 21) where
  rank_is : p.rank ≡ i.rank
  rank_is = ap (λ (x : Places). x.rank) at

  pub w_late : (p.rank ≡ 0 → ⊥) → AfterIs i (on_w i (take len ws)) None old l
  unfolding on_w
  w_late e = is_fault i _ p old l at h (fails _ _ (first_fails _ _ (ne_eqb i.rank 0 (λ q. e (rank_is ∙ q)))))

  pub w_size : (len ≡ 1 → ⊥) → AfterIs i (on_w i (take len ws)) None old l
  unfolding on_w
  w_size e = is_fault i _ p old l at h (fails _ _ (second_fails _ _ (ne_eqb (length (take len ws)) 1 (λ q. e (omega (arith, size_of len ws full))))))

  pub w_taken : p.rank ≡ 0 → len ≡ 1 → AfterIs i (on_w i (take len ws)) (Some (places 1 (get_or ws 0 0) p.nodes p.pools p.steps p.words)) old l
  unfolding on_w
  w_taken e q =
      is_next i _ _ old l _ (passes _ _ (both _ _ (eq-eqb i.rank 0 (sym rank_is ∙ e)) (eq-eqb (length (take len ws)) 1 (omega (arith, size_of len ws full)))))
      (ap (λ (x : Places). places 1 (get_or ws 0 0) x.nodes x.pools x.steps x.words) at
      ∙ ap (λ (w : ℕ). places 1 w (places_of i).nodes (places_of i).pools (places_of i).steps (places_of i).words) (sym (first_of len ws (omega arith))))
      (record {
        tables = h.tables;
        inside = record { nodes = h.inside.nodes; fives = h.inside.fives; pools = h.inside.pools; steps = h.inside.steps; step_words = h.inside.step_words };
        lists = h.lists;
      })

-- what a line gives by its letter
module _ (i : Input) (ns : List ℕ) where
  pub letter_w : (c : ℕ) → c ≡ 87 → on_line i (record { letter = c; words = ns }) ≡ on_w i ns
  unfolding on_line choose
  letter_w c e = rw e

  pub letter_n : (c : ℕ) → c ≡ 78 → on_line i (record { letter = c; words = ns }) ≡ on_n i ns
  unfolding on_line choose
  letter_n c e = rw e

  pub letter_v : (c : ℕ) → c ≡ 86 → on_line i (record { letter = c; words = ns }) ≡ on_v i ns
  unfolding on_line choose
  letter_v c e = rw e

  pub letter_s : (c : ℕ) → c ≡ 83 → on_line i (record { letter = c; words = ns }) ≡ on_s i ns
  unfolding on_line choose
  letter_s c e = rw e

  pub letter_other : (c : ℕ) → (c ≡ 87 → ⊥) → (c ≡ 78 → ⊥) → (c ≡ 86 → ⊥) → (c ≡ 83 → ⊥) → on_line i (record { letter = c; words = ns }) ≡ none
  unfolding on_line choose
  letter_other c w n v s = rw (ne_eqb c 87 w, ne_eqb c 78 n, ne_eqb c 86 v, ne_eqb c 83 s)

  -- the answer of a line from that of its letter
  pub by_letter : (c : ℕ) (o : Option Input) (r : code.Option Places) (old new : Lists) → on_line i (record { letter = c; words = ns }) ≡ o → AfterIs i o r old new → AfterIs i (on_line i (record { letter = c; words = ns })) r old new
  by_letter c o r old new e a = rw e a

-- a line of more than 21 numbers gives nothing, whatever its letter
module _ (i : Input) (ns : List ℕ) (many : 21 < length ns) where
  long_w : on_w i ns ≡ none
  unfolding on_w
  long_w = fails _ _ (second_fails _ _ (ne_eqb (length ns) 1 (λ e. omega arith)))

  long_n : on_n i ns ≡ none
  long_n = n_none i ns (second_fails _ _ (another_size 6 1285 _ ns (λ e. omega arith)))

  long_v : on_v i ns ≡ none
  long_v = v_none i ns (second_fails _ _ (another_size 2 1025 _ ns (λ e. omega arith)))

  long_s : on_s i ns ≡ none
  long_s = s_none i ns (second_fails _ _ (first_fails _ _ (above 4 21 (length ns) many)))

  long : (c : ℕ) → on_line i (record { letter = c; words = ns }) ≡ none
  unfolding on_line
  long c = rw (long_w, long_n, long_v, long_s) (simp same_either)

after_short : (i : Input) (o : Option Line) → elim o [ none ↦ none | some l ↦ on_line i l ] ≡ after_line i (short o)
after_short i none = refl
after_short i (some l) = go (leb (length l.words) 21) refl
  where
    go : (b : Bool) → leb (length l.words) 21 ≡ b → on_line i l ≡ after_line i (short_line l)
    go true e = sym (ap (after_line i) (is_short_lem l.letter l.words (leb-true _ 21 e)))
    go false e = long i l.words (leb-false _ 21 e) l.letter ∙ sym (ap (after_line i) (is_long l.letter l.words (leb-false _ 21 e)))

-- a line by its short form
pub with_line_lem : (i : Input) (bs : List ℕ) → with_line i bs ≡ after_line i (short (line_of bs))
unfolding with_line
with_line_lem i bs = after_short i (line_of bs)
