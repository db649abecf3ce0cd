-- "What is turned away" as data: when each cause applies, in document 01's order and words. Nothing here is read off `step`,
-- `local`, `settled`, the steps' own functions, `fault` or its checks. It shares with them the words of the document: shaped, at,
-- matches, defined, unfolds, known, term, scope, field uses, times_child; and in row 10 load itself and wf_state.
use Rattle.std.specs.Prelude.{◌≡◌, ◌⊎◌, ◌↔◌, Bool, true, false, cond, List, [], ◌∷◌, ℕ, suc, ◌+◌, ◌%◌, ◌≤◌, ◌<◌, eqb, length, drop}
use Rattle.std.proofs.Math.Option.{some}
use Rattle.std.proofs.Math.ListN.{get_elem?}
use Rattle.model.specs.Basics.{refuse, done, has}
use Rattle.model.specs.Values.{is_name, is_public, is_pattern_leaf, is_tuple, arity, is_minted, shaped, at, distinct, Env, Fit, matches, binders, word, extend}
use Rattle.model.specs.Table.{Table, count, field, kind, uses, Term, inp, term, scope}
use Rattle.model.specs.Checks.{times_child}
use Rattle.model.specs.Wrapper.{has_side}
use Rattle.model.specs.Side.{Tag, within, to_parent, from_parent, to_child, from_child, Particle, output, input, Box, down, arrived, leaving, Message, Core, State, side, has_taken}
use Rattle.model.specs.Unfolding.{tag_of, unfolds, defined, particles_in, boxes_in, new_names_in}
use Rattle.model.specs.Load.{Composition, wrapper_of, table, Refused, refused, ok, load}
use Rattle.model.specs.WellFormed.{env_at, wf_state}
use Rattle.model.specs.Step.{Step, Label, labelled, refusal, known, step}

-- THE THINGS THAT A STEP NAMES: the lobby, particles and boxes of its side; the shelf is side 1's
abbrev pub core_of : State → Step → Core
core_of s x = (side s x.side).core

abbrev pub lobby_of : State → Step → List Message
lobby_of s x = (core_of s x).lobby

abbrev pub particles_of : State → Step → List Particle
particles_of s x = (core_of s x).contents.particles

abbrev pub boxes_of : State → Step → List Box
boxes_of s x = (core_of s x).contents.boxes

abbrev pub shelf1 : State → List (List ℕ)
shelf1 s = (side s 1).core.shelf

-- the step is of one of these kinds
abbrev pub Kind : List ℕ → Step → Type 0
Kind ks x = has x.kind ks ≡ true

-- kind 5 names an output and an input that waits at a node with a pattern and a body
pub record Meeting (b : Composition) (s : State) (x : Step) : Type 0 where
  pub meets : x.kind ≡ 5
  pub at : ℕ
  pub chan : ℕ
  pub tag : Tag
  pub val : List ℕ
  pub output_i : get_elem? (particles_of s x) x.i ≡ some (output at chan tag val)
  pub box : ℕ
  pub node : ℕ
  pub vals : List (List ℕ)
  pub input_j : get_elem? (particles_of s x) x.j ≡ some (input box node vals)
  pub number : ℕ
  pub again : Bool
  pub in_chan : ℕ
  pub in_tag : ℕ
  pub pat : List ℕ
  pub body : Term
  pub at_node : term (table b x.side) node ≡ inp number again in_chan in_tag pat body

-- the input's bound names in force with their values, and with those that the pattern binds
abbrev pub in_force : (b : Composition) (s : State) (x : Step) → Meeting b s x → Env
in_force b s x m = env_at (table b x.side) m.node m.vals

abbrev pub bindings : (b : Composition) (s : State) (x : Step) → Meeting b s x → Fit → Env
bindings b s x m f = extend (in_force b s x m) (binders m.pat) f.bound

-- what the body unfolds to, and nothing else
abbrev pub unfolded : (b : Composition) (s : State) (x : Step) → Meeting b s x → Fit → List Particle
unfolded b s x m f = (unfolds x.side m.body (bindings b s x m f) m.at (record { particles = []; boxes = boxes_of s x; minted = (core_of s x).contents.minted })).particles

-- the output goes, and a plain input goes too; a replicated one stays
abbrev pub gone : Bool → ℕ
gone true = 1
gone false = 2

-- fitting tags of an output and an input
pub data Fitting : Tag → Tag → Type 0 where
  both_within : Fitting within within
  parent : Fitting from_parent to_parent
  child : {n : ℕ} → Fitting (from_child n) (to_child n)

-- THE EIGHT STEPS: what the thing at its position must be
pub data Can (b : Composition) (s : State) (x : Step) : Type 0 where
  can_enter : x.kind ≡ 1 → Can b s x
  can_down : {m : Message} → x.kind ≡ 2 → get_elem? (lobby_of s x) x.i ≡ some m → m.status ≡ down → Can b s x
  can_up : {at ch : ℕ} {v : List ℕ} → x.kind ≡ 3 → get_elem? (particles_of s x) x.i ≡ some (output at ch to_parent v) → Can b s x
  -- box j, a child of its box (so not box 0) with name n
  can_descend : {at ch n : ℕ} {v : List ℕ} {c : Box} → x.kind ≡ 4 → get_elem? (particles_of s x) x.i ≡ some (output at ch (to_child n) v)
      → get_elem? (boxes_of s x) x.j ≡ some c → (x.j ≡ 0 → ⊥) → c.parent ≡ at → c.name ≡ n → Can b s x
  can_meet : (m : Meeting b s x) → m.at ≡ m.box → m.chan ≡ word (in_force b s x m) m.in_chan → Fitting m.tag (tag_of (in_force b s x m) m.in_tag) → Can b s x
  can_pass : {m : Message} → x.kind ≡ 6 → get_elem? (lobby_of s x) x.i ≡ some m → m.status ≡ arrived → m.chan ≡ 1 → Can b s x
  can_leave : {m : Message} → x.kind ≡ 7 → get_elem? (lobby_of s x) x.i ≡ some m → m.status ≡ leaving → Can b s x
  can_take : x.kind ≡ 8 → has_taken (core_of s x) 1 x.i ≡ false → Can b s x

-- the filter and the logging wrapper have side 1 alone
abbrev pub Alone : Composition → Type 0
Alone b = (b.wrapper ≡ 1) ⊎ (b.wrapper ≡ 3)

-- how many copies leave of a message that enters or passes: one, under the logging wrapper
abbrev pub copy_count : Composition → ℕ
copy_count b = cond (eqb b.wrapper 3) 1 0

-- from box 0 of side 1 on channel 2 under the pipeline an output goes to the shelf
abbrev pub ToShelf : Composition → Step → ℕ → Type 0
ToShelf b x ch = (b.wrapper ≡ 2) × (x.side ≡ 1) × (ch ≡ 2)

-- 10: tables that load refuses, or a state not well formed for them; no such kind, side or position; unused i or j not 0; value
-- words in kinds 2 to 8; kind 8 under the filter or the logging wrapper, or from side 1
pub data Row10 (b : Composition) (s : State) (x : Step) : Type 0 where
  tables : {r : Refused} → load b ≡ refused r → Row10 b s x
  state : wf_state b s ≡ false → Row10 b s x
  no_kind : (x.kind ≡ 0) ⊎ (8 < x.kind) → Row10 b s x
  lacks_side : has_side (wrapper_of b) x.side ≡ false → Row10 b s x
  no_message : Kind (2 ∷ 6 ∷ 7 ∷ []) x → length (lobby_of s x) ≤ x.i → Row10 b s x
  no_particle_i : Kind (3 ∷ 4 ∷ 5 ∷ []) x → length (particles_of s x) ≤ x.i → Row10 b s x
  no_box_j : Kind (4 ∷ []) x → length (boxes_of s x) ≤ x.j → Row10 b s x
  no_particle_j : Kind (5 ∷ []) x → length (particles_of s x) ≤ x.j → Row10 b s x
  no_shelf_place : Kind (8 ∷ []) x → length (shelf1 s) ≤ x.i → Row10 b s x
  unused_i : Kind (1 ∷ []) x → (x.i ≡ 0 → ⊥) → Row10 b s x
  unused_j : Kind (1 ∷ 2 ∷ 3 ∷ 6 ∷ 7 ∷ 8 ∷ []) x → (x.j ≡ 0 → ⊥) → Row10 b s x
  value_words : Kind (2 ∷ 3 ∷ 4 ∷ 5 ∷ 6 ∷ 7 ∷ 8 ∷ []) x → (x.words ≡ [] → ⊥) → Row10 b s x
  kind_8_alone : x.kind ≡ 8 → Alone b → Row10 b s x
  kind_8_side_1 : x.kind ≡ 8 → x.side ≡ 1 → Row10 b s x

-- 11: entered value malformed, empty or over 16 words, or a word not a tuple, public name, or minted or outside number with serial up to 255
pub data Row11 (x : Step) : Type 0 where
  malformed : x.kind ≡ 1 → shaped x.words ≡ false → Row11 x
  empty : x.kind ≡ 1 → x.words ≡ [] → Row11 x
  over_16 : x.kind ≡ 1 → 16 < length x.words → Row11 x
  bad_word : (k : ℕ) {w : ℕ} → x.kind ≡ 1 → get_elem? x.words k ≡ some w → is_tuple w ≡ false → is_name w ≡ false → Row11 x

-- 17: the state after would pass a limit on particles, boxes, minted names, lobby or shelf
pub data Row17 (b : Composition) (s : State) (x : Step) : Type 0 where
  particles_down : x.kind ≡ 2 → 32 < length (particles_of s x) + 1 → Row17 b s x
  particles_meet : (m : Meeting b s x) → 32 + gone m.again < length (particles_of s x) + particles_in m.body → Row17 b s x
  boxes : (m : Meeting b s x) → 16 < length (boxes_of s x) + boxes_in m.body → Row17 b s x
  minted : (m : Meeting b s x) → 256 < (core_of s x).contents.minted + new_names_in m.body → Row17 b s x
  -- a message comes, at enter with its copies; at pass the copies alone come
  lobby_enter : x.kind ≡ 1 → 16 < length (lobby_of s x) + 1 + copy_count b → Row17 b s x
  lobby_pass : x.kind ≡ 6 → 16 < length (lobby_of s x) + copy_count b → Row17 b s x
  lobby_take : x.kind ≡ 8 → 16 < length (lobby_of s x) + 1 → Row17 b s x
  lobby_up : {ch : ℕ} {v : List ℕ} → x.kind ≡ 3 → get_elem? (particles_of s x) x.i ≡ some (output 0 ch to_parent v) → (ToShelf b x ch → ⊥)
      → 16 < length (lobby_of s x) + 1 → Row17 b s x
  shelf : {ch : ℕ} {v : List ℕ} → x.kind ≡ 3 → get_elem? (particles_of s x) x.i ≡ some (output 0 ch to_parent v) → ToShelf b x ch
      → 32 < length (core_of s x).shelf + 1 → Row17 b s x

-- THE TABLE OF CAUSES of a step
pub data StepCause (b : Composition) (s : State) (x : Step) : ℕ → Type 0 where
  by_10 : Row10 b s x → StepCause b s x 10
  by_11 : Row11 x → StepCause b s x 11
  -- the entered value holds a minted name that has left by neither outlet
  by_12 : (k : ℕ) {w : ℕ} → x.kind ≡ 1 → get_elem? x.words k ≡ some w → is_minted w ≡ true → known s w ≡ false → StepCause b s x 12
  -- the thing at that position cannot make this step
  by_13 : (Can b s x → ⊥) → StepCause b s x 13
  -- the pattern does not take the value
  by_14 : {e : ℕ} (m : Meeting b s x) → matches m.pat 1 m.val ≡ refuse e → StepCause b s x 14
  -- a name bound to a tuple is free in the body as channel, tag or box name, however deep
  by_15 : {f : Fit} (m : Meeting b s x) → matches m.pat 1 m.val ≡ done f → defined m.body (bindings b s x m f) ≡ false → StepCause b s x 15
  -- an unfolded output's value exceeds 16 words
  by_16 : {f : Fit} {at ch : ℕ} {g : Tag} {v : List ℕ} (m : Meeting b s x) (k : ℕ) → matches m.pat 1 m.val ≡ done f
      → get_elem? (unfolded b s x m f) k ≡ some (output at ch g v) → 16 < length v → StepCause b s x 16
  by_17 : Row17 b s x → StepCause b s x 17

-- the lowest number that applies is given, with the side as asked; and a label exactly where none applies
unfoldable pub LowestStep : Type 0
LowestStep = (b : Composition) (s : State) (x : Step)
    → ((n k : ℕ) → ((step b s x).answer ≡ refusal n k) ↔ (StepCause b s x n × ((m : ℕ) → m < n → StepCause b s x m → ⊥) × (k ≡ x.side)))
    × (((l : Label) × (v : List ℕ) × ((step b s x).answer ≡ labelled l x.side v)) ↔ ((n : ℕ) → StepCause b s x n → ⊥))

-- LOAD

-- field k (from 0) of node p has this use, by the table of field uses: 0 unused, 1 child, 2 name, 3 tag, 4 value, 5 pattern
abbrev pub Used : Table → (p k u : ℕ) → Type 0
Used t p k u = (p < count t) × (get_elem? (uses (kind t p)) k ≡ some u)

-- a value or a pattern has its place in field k of node p; the pool's words from there on; and what a leaf of it is
abbrev pub Placed : Table → (p k u : ℕ) → Type 0
Placed t p k u = Used t p k u × ((u ≡ 4) ⊎ (u ≡ 5))

abbrev pub words_at : Table → (p k : ℕ) → List ℕ
words_at t p k = drop (field t p (1 + k)) t.pool

abbrev pub leaf_of : (u : ℕ) → ℕ → Bool
leaf_of u = cond (eqb u 4) is_public is_pattern_leaf

-- one value or pattern is read from some words: k words of it are read, the words of the fourth argument follow, and m items are still to come
pub data Read (leaf : ℕ → Bool) (from : List ℕ) : (k : ℕ) → List ℕ → (m : ℕ) → Type 0 where
  unread : Read leaf from 0 from 1
  past_leaf : {k w m : ℕ} {ws : List ℕ} → leaf w ≡ true → Read leaf from k (w ∷ ws) (suc m) → Read leaf from (suc k) ws m
  past_tuple : {k w m : ℕ} {ws : List ℕ} → leaf w ≡ false → is_tuple w ≡ true → Read leaf from k (w ∷ ws) (suc m) → Read leaf from (suc k) ws (arity w + m)

-- it is malformed, over 16 words, or past the pool
pub data Broken (leaf : ℕ → Bool) (from : List ℕ) : Type 0 where
  item_malformed : {k w m : ℕ} {ws : List ℕ} → leaf w ≡ false → is_tuple w ≡ false → Read leaf from k (w ∷ ws) (suc m) → Broken leaf from
  item_over_16 : {m : ℕ} {ws : List ℕ} → Read leaf from 16 ws (suc m) → Broken leaf from
  item_past_pool : {k m : ℕ} → Read leaf from k [] (suc m) → Broken leaf from

-- the causes of a side's table, with the node at fault: 0 for 1 and 7
pub data TableCause (t : Table) : (number node : ℕ) → Type 0 where
  -- words not a multiple of 5; 0 or over 256 nodes; pool over 1,024
  words : (length t.nodes % 5 ≡ 0 → ⊥) → TableCause t 1 0
  no_nodes : count t ≡ 0 → TableCause t 1 0
  many_nodes : 256 < count t → TableCause t 1 0
  long_pool : 1024 < length t.pool → TableCause t 1 0
  -- unknown kind, unused field not 0
  unknown_kind : {p : ℕ} → p < count t → 6 < kind t p → TableCause t 2 p
  unused_field : {p : ℕ} (k : ℕ) → Used t p k 0 → (field t p (1 + k) ≡ 0 → ⊥) → TableCause t 2 p
  -- child not above its parent or not in the table; a node other than 0 not a child exactly once
  child_low : {p : ℕ} (k : ℕ) → Used t p k 1 → field t p (1 + k) ≤ p → TableCause t 3 p
  child_out : {p : ℕ} (k : ℕ) → Used t p k 1 → count t ≤ field t p (1 + k) → TableCause t 3 p
  not_once : {p : ℕ} → p < count t → (p ≡ 0 → ⊥) → (times_child t p (count t) ≡ 1 → ⊥) → TableCause t 3 p
  -- box, new or channel name over 63; tag over 65
  name_high : {p : ℕ} (k : ℕ) → Used t p k 2 → 63 < field t p (1 + k) → TableCause t 4 p
  tag_high : {p : ℕ} (k : ℕ) → Used t p k 3 → 65 < field t p (1 + k) → TableCause t 4 p
  -- value or pattern malformed, over 16 words, past the pool, repeated name in a pattern
  bad_item : {p : ℕ} (k u : ℕ) → Placed t p k u → Broken (leaf_of u) (words_at t p k) → TableCause t 5 p
  repeated : {p : ℕ} {ws : List ℕ} (k : ℕ) → Used t p k 5 → at is_pattern_leaf t.pool (field t p (1 + k)) ≡ done ws → distinct (binders ws) ≡ false → TableCause t 5 p
  -- over 8 bound names in force
  bound_names : {p : ℕ} → p < count t → 8 < length (scope t p) → TableCause t 6 p
  -- start exceeds particles, boxes (box 0 is one) or minted names
  start_particles : 32 < particles_in (term t 0) → TableCause t 7 0
  start_boxes : 16 < 1 + boxes_in (term t 0) → TableCause t 7 0
  start_minted : 256 < new_names_in (term t 0) → TableCause t 7 0

pub data LoadCause (b : Composition) : (number side node : ℕ) → Type 0 where
  -- wrapper not 1, 2 or 3, with side 0
  wrapper : (b.wrapper ≡ 1 → ⊥) → (b.wrapper ≡ 2 → ⊥) → (b.wrapper ≡ 3 → ⊥) → LoadCause b 1 0 0
  of_table : {n k p : ℕ} → has_side (wrapper_of b) n ≡ true → TableCause (table b n) k p → LoadCause b k n p
  -- under the filter and the logging wrapper, side 2's slices not empty
  alone_nodes : Alone b → ((table b 2).nodes ≡ [] → ⊥) → LoadCause b 1 2 0
  alone_pool : Alone b → ((table b 2).pool ≡ [] → ⊥) → LoadCause b 1 2 0

-- wrapper, then side 1 wholly, then side 2; within a side the lowest number; and of that the lowest node
abbrev pub Before : (n k p n' k' p' : ℕ) → Type 0
Before n k p n' k' p' = (n < n') ⊎ ((n ≡ n') × ((k < k') ⊎ ((k ≡ k') × (p < p'))))

unfoldable pub LowestLoad : Type 0
LowestLoad = (b : Composition)
    → ((r : Refused) → (load b ≡ refused r) ↔ (LoadCause b r.number r.side r.node × ((k n p : ℕ) → Before n k p r.side r.number r.node → LoadCause b k n p → ⊥)))
    × (((s : State) × (load b ≡ ok s)) ↔ ((k n p : ℕ) → LoadCause b k n p → ⊥))
