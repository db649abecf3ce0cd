-- From lines to a run, and from a run to lines.
use mathlib.Core.Path.{◌≡◌, refl, sym, ap, ap₂, subst, ◌∙◌}
use mathlib.Core.Bool.{Bool, true, false}
use mathlib.Core.List.{List, [], ◌∷◌, ◌++◌, map}
use mathlib.Core.Logic.{◌⊎◌, inl, inr}
use mathlib.Core.Option.{some}
use Prim.Native.Nat.{ℕ, ◌+◌, ◌-◌, ◌*◌, ◌<◌, ◌≤◌}
use native.Mathlib.Nat.{zero-add, mul-suc, mul-le-mul_left}
use native.Mathlib.Omega.{arith}
use borrow.Author.Tests.{le-ltb, le-leb, lt-leb, eqb-true, eqb-false}
use lib.Dec.{eqb}
use lib.ListN.{length, get_or, set, take, drop, length-map}
use lib.Seq.{sets, length-sets, length-take-le, take_at, ext_get_or, get_or-set_same, get_or-set_other}
use Rattle.std.specs.Prelude.{Ok, Err}
use Rattle.std.specs.declared.result.Result.{Result}
use Rattle.model.specs.Basics.{choose}
use Rattle.model.specs.Side.{State}
use Rattle.model.specs.Table.{Table}
use Rattle.model.specs.Wrapper.{all_sides}
use Rattle.model.specs.Load.{Composition, Refused, Loaded, refused, ok, load}
use Rattle.model.specs.Step.{Step}
use Rattle.model.specs.Runs.{answers}
use Rattle.format.specs.Words.{all_step_words, all_answer_words, answers_of, broken_off, too_short, unloaded, answered, run_from, run_steps, run_of, onto}
use Rattle.format.specs.Words.{Ran as FRan}
use Rattle.format.specs.Lines.{newline, Input, when, whole, reading, read_so_far}
use Rattle.format.specs.Output.{word_ok, answer_lines, fault_line, refused_line, output_for, output}
use Rattle.format.proofs.StepWords.{words_steps}
use Rattle.format.proofs.AnswerWords.{answers_many, answers_read}
use Rattle.reading.specs.Lists.{Lists, laid, nodes_of, pools_of, places_of, Inside, reading_of, places_in, Holds, ReadIs}
use Rattle.reading.specs.declared.Places.{Places}
use Rattle.std.specs.declared.result.Result.{Result}
use Rattle.std.specs.declared.result.Result.TheVariants.{Ok, Err}
use Rattle.reading.specs.declared.Fault.{Fault}
use Rattle.reading.proofs.LaidLaws.{laid_length, laid_part}
use Rattle.sides.proofs.Sets.{mid_sets}
use Rattle.loading.specs.declared.LoadRefusal.{LoadRefusal}
use Rattle.loading.specs.Loading.{told_by}
use Rattle.running.specs.declared.RunError.{RunError}
use Rattle.running.specs.declared.RunError.TheVariants as error
use Rattle.wrappers.specs.Compositions.{tables_of, composition}
use Rattle.running.specs.Running.{ran_of, RunIs}
use Rattle.writing.specs.Written.{PageIs}
use Rattle.writing.specs.Words.{answered_in}
use Rattle.writing.proofs.AnswerLaws.{answered_lines}
use Rattle.writing.proofs.WrittenLaws.{page_start, page_within}
use Rattle.text.specs.Text.{Given, has_room, buffer_after, TextIs}
use Rattle.text.specs.declared.TooShort.{TooShort}

-- A RUN OF WHAT THE LINES GIVE
some_steps : (b : Composition) (xs : List Step) (room : ℕ) → 20 * length xs ≤ room → run_steps b room (some xs) ≡ run_from b xs (load b)
unfolding choose
some_steps b xs room h = ap (λ (t : Bool). choose t too_short (run_from b xs (load b))) (le-ltb room (20 * length xs) h)

module _ {i : Input} {w : ℕ} {ns ps : List (List ℕ)} {ws : List ℕ} (g : Given i w ns ps ws) where
  pub run_given : (room : ℕ) → room ≡ 20480 → run_of (composition w ns ps) ws room ≡ run_from i.loads i.steps (load i.loads)
  run_given room e =
      ap (λ (b : Composition). run_of b ws room) g.loads
      ∙ ap (λ (l : List ℕ). run_of i.loads l room) g.words
      ∙ ap (run_steps i.loads room) (words_steps i.steps)
      ∙ some_steps i.loads i.steps room (omega (arith, g.few))

-- THE OUTPUT OF A RUN
output_ok : (i : Input) (s : State) → load i.loads ≡ ok s → output_for i ≡ word_ok ++ (newline ∷ answer_lines 0 (answers i.loads s i.steps))
unfolding output_for
output_ok i s e = rw (e, output_for)

output_refused : (i : Input) (x : Refused) → load i.loads ≡ refused x → output_for i ≡ refused_line x
unfolding output_for
output_refused i x e = rw (e, output_for)

module _ (i : Input) (x : FRan) (lent after : List ℕ) (e : x ≡ run_from i.loads i.steps (load i.loads)) where
  by_load : (r : Result ℕ RunError) → RunIs x lent after r → (o : Loaded) → load i.loads ≡ o → RunIs (run_from i.loads i.steps o) lent after r
  by_load r h o q = subst (λ (z : FRan). RunIs z lent after r) (e ∙ ap (run_from i.loads i.steps) q) h

  -- what the enum says is what the run from there comes to
  told : (r c : Result ℕ RunError) → RunIs x lent after r → r ≡ c → (o : Loaded) → load i.loads ≡ o → ran_of c after ≡ run_from i.loads i.steps o
  told r c h d o q = ap (λ (y : Result ℕ RunError). ran_of y after) (sym d) ∙ (by_load r h o q).answer

  pub output_done : (n : ℕ) (r : Result ℕ RunError) → RunIs x lent after r → r ≡ Ok n → length i.steps ≤ 1024 → answered_in n after ≡ output_for i
  output_done n r h d few = by (load i.loads) refl
    where
      by : (o : Loaded) → load i.loads ≡ o → answered_in n after ≡ output_for i
      by (refused z) q =
          let k : answered (answers_of n after) ≡ unloaded z = told r (Ok n) h d (refused z) q in
          let m : ◌≡◌ {A = ℕ} 0 1 = cc in
          absurd (omega arith)
      by (ok s) q =
          let ys = answers i.loads s i.steps in
          let g = (by_load r h (ok s) q).put in
          let k : answered (answers_of n after) ≡ answered ys = told r (Ok n) h d (ok s) q in
          let same : answers_of n after ≡ ys = cc in
          let many : length ys ≡ n = sym (ap length same) ∙ answers_read n after in
          let size : length (all_answer_words ys) ≡ 20 * n = g.size ∙ ap (λ (m : ℕ). 20 * m) many in
          let words = ap (take (20 * n)) g.words ∙ take_at (all_answer_words ys) (drop (length (all_answer_words ys)) lent) (20 * n) size in
          answered_lines n after ys many (omega (arith, many, few, answers_many i.loads s i.steps)) words ∙ sym (output_ok i s q)

  pub output_unloaded : (f : LoadRefusal) (r : Result ℕ RunError) → RunIs x lent after r → r ≡ Err (error.Refused f) → refused_line (told_by f) ≡ output_for i
  output_unloaded f r h d = by (load i.loads) refl
    where
      y : Refused
      y = told_by f

      by : (o : Loaded) → load i.loads ≡ o → refused_line y ≡ output_for i
      by (ok s) q =
          let u : unloaded y ≡ answered (answers i.loads s i.steps) = told r (Err (error.Refused f)) h d (ok s) q in
          let v : ◌≡◌ {A = ℕ} 0 1 = cc in
          absurd (omega arith)
      by (refused z) q =
          let u : unloaded y ≡ unloaded z = told r (Err (error.Refused f)) h d (refused z) q in
          let same : y ≡ z = cc in
          ap refused_line same ∙ sym (output_refused i z q)

  -- a list of steps that was read does not break off, and its answers have room
  pub output_always : (o : List ℕ) (r : Result ℕ RunError) → RunIs x lent after r → (r ≡ Err error.BrokenOff) ⊎ (r ≡ Err error.TooShort) → o ≡ output_for i
  output_always o r h d = by (load i.loads) refl d
    where
      by : (z : Loaded) → load i.loads ≡ z → (r ≡ Err error.BrokenOff) ⊎ (r ≡ Err error.TooShort) → o ≡ output_for i
      by (refused z) q (inl u) =
          let k : broken_off ≡ unloaded z = told r (Err error.BrokenOff) h u (refused z) q in
          let m : ◌≡◌ {A = ℕ} 0 1 = cc in
          absurd (omega arith)
      by (refused z) q (inr u) =
          let k : too_short ≡ unloaded z = told r (Err error.TooShort) h u (refused z) q in
          let m : ◌≡◌ {A = ℕ} 0 1 = cc in
          absurd (omega arith)
      by (ok s) q (inl u) =
          let k : broken_off ≡ answered (answers i.loads s i.steps) = told r (Err error.BrokenOff) h u (ok s) q in
          let m : ◌≡◌ {A = ℕ} 0 1 = cc in
          absurd (omega arith)
      by (ok s) q (inr u) =
          let k : too_short ≡ answered (answers i.loads s i.steps) = told r (Err error.TooShort) h u (ok s) q in
          let m : ◌≡◌ {A = ℕ} 0 1 = cc in
          absurd (omega arith)

-- WHAT IS READ
-- the answer says what is read
read_is : (bs : List ℕ) {r : Result Places Fault} {old l : Lists} → ReadIs bs r old l → (v : Result Places Fault) → r ≡ v → reading bs ≡ reading_of v (read_so_far bs)
read_is bs h v e = sym h.verdict ∙ ap (λ (y : Result Places Fault). reading_of y (read_so_far bs)) e

pub fault_output : (bs : List ℕ) {r : Result Places Fault} (f : Fault) {old l : Lists} → ReadIs bs r old l → r ≡ Err f → fault_line f.line ≡ output bs
unfolding output
fault_output bs f h e = let q = read_is bs h (Err f) e in rw (q, output) refl

-- a whole input, and the lists that hold it
pub record WholeIs (bs : List ℕ) (p : Places) (old l : Lists) : Type 0 where
  pub input : Input
  pub is : reading bs ≡ whole input
  pub places : p ≡ places_of input
  pub holds : Holds input old l

pub whole_read : (bs : List ℕ) {r : Result Places Fault} {p : Places} {old l : Lists} → ReadIs bs r old l → r ≡ Ok p → WholeIs bs p old l
whole_read bs {p = p} h e = record { input = read_so_far bs; is = read_is bs h (Ok p) e; places = sym (ap places_in e) ∙ h.places; holds = h.holds }

pub whole_output : (bs : List ℕ) (i : Input) → reading bs ≡ whole i → output_for i ≡ output bs
unfolding output
whole_output bs i e = rw (e, output) refl

-- THE SIDES' PARTS OF A LIST
-- a part is inside
pub part_inside : (wide k n c len : ℕ) → k < n → wide * n ≤ len → c ≤ wide → wide * k + c ≤ len
part_inside wide k n c len a b h = omega (arith, mul-suc wide k, mul-le-mul_left wide a, b, h)

pub part_size : (a c : ℕ) (l : List ℕ) → take (a + c - a) l ≡ take c l
part_size a c l = let e : a + c - a ≡ c = omega arith in ap (λ (k : ℕ). take k l) e

-- the words of one part more
pub part_more : (rs : List (List ℕ)) (k : ℕ) (x : List ℕ) (f : ℕ → List ℕ) → k < length rs → x ≡ f k → ((j : ℕ) → j < k → get_or rs j [] ≡ f j) → (j : ℕ) → j < k + 1 → get_or (set rs k x) j [] ≡ f j
part_more rs k x f m e h j below = by (eqb j k) refl
  where
    by : (b : Bool) → eqb j k ≡ b → get_or (set rs k x) j [] ≡ f j
    by true q = let s : j ≡ k = eqb-true j k q in rw s (get_or-set_same rs k x [] m ∙ e)
    by false q = get_or-set_other rs k j x [] (eqb-false j k q) ∙ h j (omega (arith, eqb-false j k q))

-- all parts are the words that were laid there
parts_are : (wide : ℕ) (wss rs : List (List ℕ)) (counts old after : List ℕ) → counts ≡ map length wss → after ≡ laid wide 0 wss old → length rs ≡ length counts → wide * length counts ≤ length old →
    ((k : ℕ) → get_or counts k 0 ≤ wide) → ((k : ℕ) → k < length rs → get_or rs k [] ≡ take (get_or counts k 0) (drop (wide * k) after)) → rs ≡ wss
parts_are wide wss rs counts old after e q m room each h =
    let many : length counts ≡ length wss = ap length e ∙ length-map wss length in
    let n : length rs ≡ length wss = m ∙ many in
    let fits : wide * length wss ≤ length old = subst (λ (k : ℕ). wide * k ≤ length old) many room in
    ext_get_or [] rs wss n
    (λ k below.
    h k below ∙ ap (λ (l : List ℕ). take (get_or counts k 0) (drop (wide * k) l)) q ∙ ap (λ (c : List ℕ). take (get_or c k 0) (drop (wide * k) (laid wide 0 wss old))) e
    ∙ ap (λ (a : ℕ). take (get_or (map length wss) k 0) (drop a (laid wide 0 wss old))) (sym (zero-add (wide * k)))
    ∙ laid_part wide 0 wss k old (omega (arith, n)) (λ j. subst (λ (c : List ℕ). get_or c j 0 ≤ wide) e (each j)) (omega (arith, fits)))

-- the tables of the sides
tables_are : (ts : List Table) → tables_of (map (λ t. t.nodes) ts) (map (λ t. t.pool) ts) ≡ ts
unfolding tables_of
tables_are [] = refl
tables_are (t ∷ ts) = ap (λ (r : List Table). t ∷ r) (tables_are ts)

same_composition : (w v : ℕ) (ns ps ms qs : List (List ℕ)) → w ≡ v → ns ≡ ms → ps ≡ qs → composition w ns ps ≡ composition v ms qs
same_composition w v ns ps ms qs a b c = rw (a, b, c)

abbrev with_tables : Input → List Table → Composition
with_tables i ts = record { wrapper = i.loads.wrapper; tables = ts }

-- rs are the words of each side in a list of parts
abbrev AreParts : (wide : ℕ) (counts list : List ℕ) (rs : List (List ℕ)) → Type 0
AreParts wide counts list rs = (length rs ≡ length all_sides) × ((k : ℕ) → k < length all_sides → get_or rs k [] ≡ take (get_or counts k 0) (drop (wide * k) list))

-- WHAT A WHOLE INPUT GIVES
module _ {bs : List ℕ} {p : Places} {old l : Lists} (w : WholeIs bs p old l) where
  within : Inside p
  within = subst Inside (sym w.places) w.holds.inside

  pub nodes_length : length l.nodes ≡ length old.nodes
  nodes_length = ap (λ (x : Lists). length x.nodes) w.holds.lists ∙ laid_length 1285 0 _ old.nodes

  pub pools_length : length l.pools ≡ length old.pools
  pools_length = ap (λ (x : Lists). length x.pools) w.holds.lists ∙ laid_length 1025 0 _ old.pools

  steps_length : length l.steps ≡ length old.steps
  steps_length = ap (λ (x : Lists). length x.steps) w.holds.lists ∙ length-sets old.steps 0 (all_step_words w.input.steps)

  pub nodes_room : length old.nodes ≡ 1285 * length all_sides → 1285 * length all_sides ≤ length l.nodes
  nodes_room e = omega (arith, nodes_length, e)

  pub pools_room : length old.pools ≡ 1025 * length all_sides → 1025 * length all_sides ≤ length l.pools
  pools_room e = omega (arith, pools_length, e)

  pub nodes_most : (k : ℕ) → get_or p.nodes k 0 ≤ 1285
  nodes_most = within.nodes

  pub pools_most : (k : ℕ) → get_or p.pools k 0 ≤ 1025
  pools_most = within.pools

  pub words_within : length old.steps ≡ 22528 → p.words ≤ length l.steps
  words_within e = omega (arith, within.step_words, within.steps, steps_length, e)

  words_are : length old.steps ≡ 22528 → take p.words l.steps ≡ all_step_words w.input.steps
  words_are e =
      let ws = all_step_words w.input.steps in
      let n : p.words ≡ length ws = ap (λ (x : Places). x.words) w.places in
      ap (λ (x : Lists). take p.words x.steps) w.holds.lists ∙ ap (λ (k : ℕ). take k (sets old.steps 0 ws)) n ∙ mid_sets ws old.steps 0 (omega (arith, within.step_words, within.steps, n, e))

  pub given_whole : length old.nodes ≡ 1285 * length all_sides → length old.pools ≡ 1025 * length all_sides → length old.steps ≡ 22528 →
      (ns ps : List (List ℕ)) → AreParts 1285 p.nodes l.nodes ns → AreParts 1025 p.pools l.pools ps → Given w.input p.wrapper ns ps (take p.words l.steps)
  given_whole a b c ns ps f g =
      let i = w.input in
      let x = ap (λ (x : Places). x.nodes) w.places in
      let y = ap (λ (x : Places). x.pools) w.places in
      let many : length p.nodes ≡ length all_sides = ap length x ∙ length-map (nodes_of i) length ∙ length-map i.loads.tables (λ (t : Table). t.nodes) ∙ w.holds.tables in
      let more : length p.pools ≡ length all_sides = ap length y ∙ length-map (pools_of i) length ∙ length-map i.loads.tables (λ (t : Table). t.pool) ∙ w.holds.tables in
      let n : ns ≡ nodes_of i =
      parts_are 1285 (nodes_of i) ns p.nodes old.nodes l.nodes x (ap (λ (z : Lists). z.nodes) w.holds.lists) (f.0 ∙ sym many) (omega (arith, many, a)) nodes_most (λ k m. f.1 k (omega (arith, f.0, m))) in
      let q : ps ≡ pools_of i =
      parts_are 1025 (pools_of i) ps p.pools old.pools l.pools y (ap (λ (z : Lists). z.pools) w.holds.lists) (g.0 ∙ sym more) (omega (arith, more, b)) pools_most (λ k m. g.1 k (omega (arith, g.0, m))) in
      record {
        loads = same_composition _ _ _ _ _ _ (ap (λ (z : Places). z.wrapper) w.places) n q ∙ ap (λ (ts : List Table). with_tables i ts) (tables_are i.loads.tables);
        words = words_are c;
        few = omega (arith, within.steps, ap (λ (z : Places). z.steps) w.places);
      }

-- WHAT IS WRITTEN
pub page_of : {o : List ℕ} (q : List ℕ) {lent page : List ℕ} {n : ℕ} → PageIs o lent page n → o ≡ q → PageIs q lent page n
page_of q {lent} {page} {n} h e = subst (λ (z : List ℕ). PageIs z lent page n) e h

module _ {o lent page : List ℕ} {n : ℕ} (h : PageIs o lent page n) where
  pub page_count : n ≡ length (take n page)
  page_count = sym (length-take-le n page (page_within h))

  pub text_short : (out : List ℕ) → length out < n → (e : TooShort) → TextIs o out out (Err e)
  unfolding buffer_after choose
  text_short out lt e =
      let t : has_room o out ≡ false = lt-leb (length o) (length out) (omega (arith, h.count)) in
      record {
        answer = ap (λ (b : Bool). when b (length o)) (sym t);
        buffer = ap (λ (b : Bool). choose b (onto o out) out) (sym t);
        most = omega (arith, h.count, h.few);
      }

  pub text_written : (out : List ℕ) → n ≤ length out → (after : List ℕ) → after ≡ take n page ++ drop n out → TextIs o out after (Ok n)
  unfolding buffer_after choose
  text_written out le after w =
      let t : has_room o out ≡ true = le-leb (length o) (length out) (omega (arith, h.count)) in
      let copied = ap₂ (λ (z : List ℕ) (k : ℕ). z ++ drop k out) (page_start h) h.count in
      record {
        answer = ap some h.count ∙ ap (λ (b : Bool). when b (length o)) (sym t);
        buffer = w ∙ copied ∙ ap (λ (b : Bool). choose b (onto o out) out) (sym t);
        most = omega (arith, h.count, h.few);
      }
