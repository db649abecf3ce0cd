-- What the lent lists hold, and how far they are filled.
use Rattle.std.specs.Prelude.{◌≡◌, Bool, List, [], ◌∷◌, map, ℕ, ◌+◌, ◌-◌, ◌*◌, ◌≤◌, ◌%◌, ltb, eqb, length, get_or, set, drop}
use Rattle.std.specs.declared.option.Option as code
use Rattle.std.proofs.Math.Option.{Option, none, some}
use Rattle.std.proofs.lemmas.List.Edits.{sets}
use Rattle.model.specs.Basics.{◌&◌, choose}
use Rattle.model.specs.Wrapper.{all_sides}
use Rattle.format.specs.Words.{all_step_words}
use Rattle.format.specs.Lines as format
use Rattle.format.specs.Lines.{Input, when, between, fault, whole, reading, read_so_far}
use Rattle.reading.specs.declared.Places.{Places}
use Rattle.std.specs.declared.result.Result.{Result}
use Rattle.std.specs.declared.result.Result.TheVariants.{Ok, Err}
use Rattle.reading.specs.declared.Fault.{Fault}
use Rattle.reading.specs.Fields.{option_of}

-- the lent lists: the nodes of all sides in one, their pools in one, and the steps
pub record Lists : Type 0 where
  pub nodes : List ℕ
  pub pools : List ℕ
  pub steps : List ℕ

-- the same from each list by itself
abbrev pub lists : (nodes pools steps : List ℕ) → Lists
lists n p s = record { nodes = n; pools = p; steps = s }

-- a list with the words of each side at the start of its part, and otherwise as it was: parts of `wide` words, from place a on
unfoldable pub laid : (wide a : ℕ) → List (List ℕ) → List ℕ → List ℕ
laid wide a [] l = l
laid wide a (ws ∷ wss) l = sets (laid wide (a + wide) wss l) a ws

-- the nodes of each side, from side 1 on
abbrev pub nodes_of : Input → List (List ℕ)
nodes_of i = map (λ t. t.nodes) i.loads.tables

-- the pool of each side
abbrev pub pools_of : Input → List (List ℕ)
pools_of i = map (λ t. t.pool) i.loads.tables

-- the lent lists with what the lines give
abbrev pub filled : Input → Lists → Lists
filled i l = lists (laid 1285 0 (nodes_of i) l.nodes) (laid 1025 0 (pools_of i) l.pools) (sets l.steps 0 (all_step_words i.steps))

-- how far they are filled then
abbrev pub places_of : Input → Places
places_of i =
    record {
      rank = i.rank;
      wrapper = i.loads.wrapper;
      nodes = map length (nodes_of i);
      pools = map length (pools_of i);
      steps = length i.steps;
      words = length (all_step_words i.steps);
    }

-- how far the part of each side and the list of steps can be filled; a node has five words, and a step at most 22
pub record Inside (p : Places) : Type 0 where
  pub nodes : (k : ℕ) → get_or p.nodes k 0 ≤ 1285
  pub fives : (k : ℕ) → get_or p.nodes k 0 % 5 ≡ 0
  pub pools : (k : ℕ) → get_or p.pools k 0 ≤ 1025
  pub steps : p.steps ≤ 1024
  pub step_words : p.words ≤ 22 * p.steps

-- the lent lists, which were `old`, hold what the lines give for each side, and are otherwise as they were
pub record Holds (i : Input) (old new : Lists) : Type 0 where
  pub tables : length i.loads.tables ≡ length all_sides
  pub inside : Inside (places_of i)
  pub lists : new ≡ filled i old

-- what is read with a line that gives o; without it where it is at fault
abbrev pub kept : Input → (o : Option Input) → Input
kept i none = i
kept i (some j) = j

-- how far the lists are filled with what a line gives, if it gives any
abbrev pub places_after : Option Input → Option Places
places_after none = none
places_after (some i) = some (places_of i)

-- r is the answer of a line that gives o behind lines that give i, and the lent lists hold what is read then
pub record AfterIs (i : Input) (o : Option Input) (r : code.Option Places) (old new : Lists) : Type 0 where
  pub places : option_of r ≡ places_after o
  pub holds : Holds (kept i o) old new

-- r is the answer of a line that gives f i behind lines that give i: the lent lists were l before the line, and are m after it
abbrev pub LineIs : Places → (f : Input → Option Input) → (l m : Lists) → code.Option Places → Type 0
LineIs p f l m r = (i : Input) (old : Lists) → p ≡ places_of i → Holds i old l → AfterIs i (f i) r old m

-- whether a line of `size` numbers names a side, whose part of `wide` words is not full
unfoldable pub adds : (size wide : ℕ) (counts ns : List ℕ) → Bool
adds size wide counts ns = eqb (length ns) size & (between 1 (length all_sides) (get_or ns 0 0) & ltb (get_or counts (get_or ns 0 0 - 1) 0) wide)

-- r is the answer of a line that names a side: the counts with its other numbers, which stand behind the side's words in the
-- list then; none, and the list as it was, where the line does not add them
pub record AddIs (size wide : ℕ) (counts ns old new : List ℕ) (r : code.Option (List ℕ)) : Type 0 where
  pub counts_after : option_of r ≡ when (adds size wide counts ns) (set counts (get_or ns 0 0 - 1) (get_or counts (get_or ns 0 0 - 1) 0 + (size - 1)))
  pub list : new ≡ choose (adds size wide counts ns) (sets old (wide * (get_or ns 0 0 - 1) + get_or counts (get_or ns 0 0 - 1) 0) (drop 1 ns)) old

-- what an answer says is read: the number of the line at fault, or all of i, which the lines before the first fault give
abbrev pub reading_of : Result Places Fault → (i : Input) → format.Reading
reading_of (Ok p) i = whole i
reading_of (Err f) i = fault f.line

-- how far the lent lists are filled then
abbrev pub places_in : Result Places Fault → Places
places_in (Ok p) = p
places_in (Err f) = f.places

-- r is the answer of an input, and the lent lists hold what the lines before the first fault give
pub record ReadIs (input : List ℕ) (r : Result Places Fault) (old new : Lists) : Type 0 where
  pub verdict : reading_of r (read_so_far input) ≡ reading input
  pub places : places_in r ≡ places_of (read_so_far input)
  pub holds : Holds (read_so_far input) old new
