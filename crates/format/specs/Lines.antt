-- What `bench` reads: lines of tab-parted fields, each line ended by a newline.
use Rattle.std.specs.Prelude.{Bool, true, false, List, [], ◌∷◌, ◌++◌, map, ℕ, zero, suc, ◌+◌, ◌-◌, ◌*◌, leb, ltb, eqb, length, get_or, set, drop}
use Rattle.std.proofs.Math.Option.{Option, none, some}
use Rattle.model.specs.Basics.{◌&◌, choose, every}
use Rattle.model.specs.Table.{Table}
use Rattle.model.specs.Wrapper.{all_sides}
use Rattle.model.specs.Load.{Composition, no_table, table}
use Rattle.model.specs.Step.{Step}

-- FIELDS

-- an element put before the first of some pieces
unfoldable pub to_first : ℕ → List (List ℕ) → List (List ℕ)
to_first b [] = []
to_first b (f ∷ fs) = (b ∷ f) ∷ fs

-- a list in pieces, parted at each c
unfoldable pub pieces : (c : ℕ) → List ℕ → List (List ℕ)
pieces c [] = [] ∷ []
pieces c (b ∷ bs) = let rest = pieces c bs in choose (eqb b c) ([] ∷ rest) (to_first b rest)

abbrev pub tab : ℕ
tab = 9

abbrev pub newline : ℕ
newline = 10

abbrev pub is_digit : ℕ → Bool
is_digit b = leb 48 b & leb b 57

-- the number that some digits make, behind digits that make v
abbrev pub decimal_value : (v : ℕ) → List ℕ → ℕ
decimal_value v [] = v
decimal_value v (b ∷ bs) = decimal_value (10 * v + (b - 48)) bs

-- a field that is a number: plain digits, up to 4,294,967,295
unfoldable pub number : List ℕ → Option ℕ
number f = choose (ltb 0 (length f) & (every is_digit f & leb (decimal_value 0 f) 4294967295)) (some (decimal_value 0 f)) none

-- fields that are all numbers
unfoldable pub numbers : List (List ℕ) → Option (List ℕ)
numbers [] = some []
numbers (f ∷ fs) = elim (number f) [
  | none ↦ none
  | some n ↦ elim (numbers fs) [ none ↦ none | some ns ↦ some (n ∷ ns) ]
]

-- a line's letter, alone in the first field, and its numbers
pub record Line : Type 0 where
  pub letter : ℕ
  pub words : List ℕ

unfoldable pub line_of : List ℕ → Option Line
line_of l = elim (pieces tab l) [
  | [] ↦ none
  | f ∷ fs ↦ elim (eqb (length f) 1) [
    | false ↦ none
    | true ↦ elim (numbers fs) [ none ↦ none | some ns ↦ some (record { letter = get_or f 0 0; words = ns }) ]
  ]
]

-- WHAT THE LINES GIVE

-- what the lines so far give: the last letter's rank (W, N, V, S: 1 to 4; 0 before all), the wrapper with the tables,
-- and the steps
pub record Input : Type 0 where
  pub rank : ℕ
  pub loads : Composition
  pub steps : List Step

abbrev pub no_input : Input
no_input = record { rank = 0; loads = record { wrapper = 0; tables = map (λ n. no_table) all_sides }; steps = [] }

abbrev pub when : {A : Type 0} → Bool → A → Option A
when t a = choose t (some a) none

abbrev pub between : ℕ → ℕ → ℕ → Bool
between a b n = leb a n & leb n b

-- a composition with side n's table put anew, from 1 on
abbrev pub with_table : Composition → ℕ → Table → Composition
with_table b zero t = b
with_table b (suc n) t = record { wrapper = b.wrapper; tables = set b.tables n t }

-- W: the first line, and one number
unfoldable pub on_w : Input → List ℕ → Option Input
on_w i ns =
    when (eqb i.rank 0 & eqb (length ns) 1)
    (record { rank = 1; loads = record { wrapper = get_or ns 0 0; tables = i.loads.tables }; steps = i.steps })

-- N: after W, before V and S; a side by its number, and five words; at most 257 a side
unfoldable pub on_n : Input → List ℕ → Option Input
on_n i ns =
    let k = get_or ns 0 0 in
    let t = table i.loads k in
    when (between 1 2 i.rank & (eqb (length ns) 6 & (between 1 (length all_sides) k & ltb (length t.nodes) (5 * 257))))
    (record { rank = 2; loads = with_table i.loads k (record { nodes = t.nodes ++ drop 1 ns; pool = t.pool }); steps = i.steps })

-- V: after W and N, before S; a side by its number, and one word; at most 1,025 a side
unfoldable pub on_v : Input → List ℕ → Option Input
on_v i ns =
    let k = get_or ns 0 0 in
    let t = table i.loads k in
    when (between 1 3 i.rank & (eqb (length ns) 2 & (between 1 (length all_sides) k & ltb (length t.pool) 1025)))
    (record { rank = 3; loads = with_table i.loads k (record { nodes = t.nodes; pool = t.pool ++ drop 1 ns }); steps = i.steps })

-- S: after the others; kind, side, i, j and at most 17 value words; at most 1,024
abbrev pub step_of : List ℕ → Step
step_of ns = record { kind = get_or ns 0 0; side = get_or ns 1 0; i = get_or ns 2 0; j = get_or ns 3 0; words = drop 4 ns }

unfoldable pub on_s : Input → List ℕ → Option Input
on_s i ns =
    when (between 1 4 i.rank & (between 4 21 (length ns) & ltb (length i.steps) 1024))
    (record { rank = 4; loads = i.loads; steps = i.steps ++ (step_of ns ∷ []) })

-- a line by its letter
unfoldable pub on_line : Input → Line → Option Input
on_line i l =
    choose (eqb l.letter 87) (on_w i l.words)
    (choose (eqb l.letter 78) (on_n i l.words)
    (choose (eqb l.letter 86) (on_v i l.words)
    (choose (eqb l.letter 83) (on_s i l.words) none)))

-- an input with a line more, or none where the line is at fault
unfoldable pub with_line : Input → List ℕ → Option Input
with_line i bs = elim (line_of bs) [ none ↦ none | some l ↦ on_line i l ]

-- what is read: the number of the first line at fault, or all that the lines give
pub data Reading : Type 0 where
  fault : ℕ → Reading
  whole : Input → Reading

-- line n and those behind it. What stands behind the last newline is a line without its newline, and so at fault, unless
-- it is empty; an input without a first line is at fault at line 1
unfoldable pub read_from : (n : ℕ) → Input → List (List ℕ) → Reading
read_from n i [] = fault n
read_from n i (l ∷ []) = choose (eqb (length l) 0 & ltb 0 i.rank) (whole i) (fault n)
read_from n i (l ∷ (m ∷ ls)) = elim (with_line i l) [ none ↦ fault n | some j ↦ read_from (suc n) j (m ∷ ls) ]

-- the whole input; more than 65,536 bytes are at fault as line 0
unfoldable pub reading : List ℕ → Reading
reading bs = choose (leb (length bs) 65536) (read_from 1 no_input (pieces newline bs)) (fault 0)

-- what the lines before the first line at fault give
unfoldable pub so_far : Input → List (List ℕ) → Input
so_far i [] = i
so_far i (l ∷ []) = i
so_far i (l ∷ (m ∷ ls)) = elim (with_line i l) [ none ↦ i | some j ↦ so_far j (m ∷ ls) ]

-- the same of the whole input, of which nothing is read where it is too long
unfoldable pub read_so_far : List ℕ → Input
read_so_far bs = choose (leb (length bs) 65536) (so_far no_input (pieces newline bs)) no_input
