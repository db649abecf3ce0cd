-- DEMAND 2: the bench agrees with the published calculus, for every state that is well formed for tables that load takes.
use Rattle.std.specs.Prelude.{◌≡◌, ◌⊎◌, ◌↔◌, List, [], ◌∷◌, ◌++◌, Bool, true, false, not, ◌&&◌, ◌||◌, ℕ, ◌+◌, ◌≤◌, eqb, ltb, T, length}
use Rattle.std.proofs.Math.Option.{some}
use Rattle.std.proofs.Math.ListN.{get_elem?}
use Rattle.calculus.specs.Syntax.{Val, nm, Vars, parent, Tag, plain, Proc, remark, ren, vren, tren, vsub, match}
use Rattle.calculus.specs.Congruence.{◌≋◌}
use Rattle.calculus.specs.Transitions.{Label, tau, send, recv, Participants, lone, joint, In, Fn⊆, names, lnames}
use Rattle.calculus.specs.Transitions.{Step as Trans}
use Rattle.calculus.specs.Named.{Code, cnil, cpar, cbox, cnew, cout, cinp, named, shape, with_pat, public, proc}
use Rattle.calculus.specs.Wrappers.{W1, W2, L, mid_name}
use Rattle.calculus.specs.Tree.{process}
use Rattle.model.specs.Basics.{has, every}
use Rattle.model.specs.Values.{is_tuple, is_outside}
use Rattle.model.specs.Table.{Table, Term, inp}
use Rattle.model.specs.Table.{term as term_at}
use Rattle.model.specs.Side.{Particle, output, input, to_parent, State, side}
use Rattle.model.specs.Side.{Tag as STag}
use Rattle.model.specs.Unfolding.{particles_in, boxes_in, new_names_in}
use Rattle.model.specs.Wrapper.{Wrapper, Route, shelves}
use Rattle.model.specs.Load.{Composition, wrapper_of, table, load, ok}
use Rattle.model.specs.WellFormed.{env_at, ready}
use Rattle.model.specs.Step.{Step, silent, enters, leaves, logs, Answer, labelled, refusal, step, known}
use Rattle.model.specs.Process.{vwords, val_of, pat_of, code_of, env_of, Mark, part, boxed, lobby, shelf, enterer, passer, taker, conf_of, keep, known_of}

-- THE PLACE OF A STEP: who takes part in its transition, by kind, side, i and j
pub data At (w : Wrapper) : Step → Participants Mark → Type 0 where
  enter : {side : ℕ} {ws : List ℕ} {u : Mark} → At w (record { kind = 1; side = side; i = 0; j = 0; words = ws }) (joint u (enterer side))
  go_down : {side i : ℕ} → At w (record { kind = 2; side = side; i = i; j = 0; words = [] }) (joint (lobby side i) (boxed side 0))
  go_up : {side i : ℕ} → At w (record { kind = 3; side = side; i = i; j = 0; words = [] }) (lone (part side i))
  descend : {side i j : ℕ} → At w (record { kind = 4; side = side; i = i; j = j; words = [] }) (joint (part side i) (boxed side j))
  meet : {side i j : ℕ} → At w (record { kind = 5; side = side; i = i; j = j; words = [] }) (joint (part side i) (part side j))
  pass : {side i : ℕ} → At w (record { kind = 6; side = side; i = i; j = 0; words = [] }) (joint (lobby side i) (passer side))
  leave : {side i : ℕ} → At w (record { kind = 7; side = side; i = i; j = 0; words = [] }) (lone (lobby side i))
  take : (k : ℕ) {i : ℕ} {r : Route} → get_elem? w.routes k ≡ some r
      → At w (record { kind = 8; side = r.receiver; i = i; j = r.j; words = [] }) (joint (shelf r.source i) (taker r.source r.receiver))

-- NAMES IN LABELS, in the documents' numbers: minted with serial up to 255; from outside with serial up to 255; these, or public
abbrev pub minted_number : ℕ → Bool
minted_number x = (not (ltb x 65536) && ltb x 65792) || (not (ltb x 131072) && ltb x 131328)

abbrev pub outside_number : ℕ → Bool
outside_number x = not (ltb x 196608) && ltb x 196864

abbrev pub enterable : ℕ → Bool
enterable x = ltb x 64 || minted_number x || outside_number x

abbrev pub some_name : (ℕ → Bool) → List ℕ → Bool
some_name f [] = false
some_name f (x ∷ l) = f x || some_name f l

-- the value has a name that is neither public nor minted nor from outside
abbrev pub foreign : Val ℕ → Bool
foreign v = some_name (λ n. not (enterable n)) (names v)

-- the label of an answer: τ; an input on the side's inlet; an output on its outlet, or on a channel of copies; its value is known by its words
pub data Says (w : Wrapper) : Answer → Label → Type 0 where
  says_tau : {side : ℕ} → Says w (labelled silent side []) tau
  says_in : {side : ℕ} {ws : List ℕ} {v : Val ℕ} → ws ≡ vwords v → T (not (foreign v)) → Says w (labelled enters side ws) (recv (w.inlet side) (plain parent) v)
  says_out : {side : ℕ} {ws : List ℕ} {v : Val ℕ} → ws ≡ vwords v → T (not (foreign v)) → Says w (labelled leaves side ws) (send (w.outlet side) (plain parent) v)
  says_log : {side c : ℕ} {ws : List ℕ} {v : Val ℕ} → has c w.copies ≡ true → ws ≡ vwords v → T (not (foreign v)) → Says w (labelled logs side ws) (send c (plain parent) v)

-- a step asks for a label: kind 1 with the label's value, kind 7 for an output, the other kinds for τ
pub data Asks : Step → Label → Type 0 where
  asks_in : {k : Step} {x : ℕ} {o : Tag ℕ} {v : Val ℕ} → k.kind ≡ 1 → k.words ≡ vwords v → Asks k (recv x o v)
  asks_out : {k : Step} {x : ℕ} {o : Tag ℕ} {v : Val ℕ} → k.kind ≡ 7 → Asks k (send x o v)
  asks_tau : {k : Step} → (k.kind ≡ 1 → ⊥) → (k.kind ≡ 7 → ⊥) → Asks k tau

abbrev pub answer_side : Answer → ℕ
answer_side (labelled l n v) = n
answer_side (refusal k n) = n

-- THE WRAPPER ROUND THE TERMS

-- the published process: marks forgotten
abbrev pub plainly : {M : Type 0} → Proc M [] → Proc (Unit {0}) []
plainly P = remark (λ m. tt) P

-- the published process of a state
abbrev pub process_of : Composition → State → Proc (Unit {0}) []
process_of b s = plainly (process (conf_of b s))

-- the process of a table: its term with public names
abbrev pub handler : Table → Proc (Unit {0}) []
handler t = proc [] tt (code_of (term_at t 0)) public

-- the loaded state is the wrapper round the tables' processes
unfoldable pub LoadAgrees : Type 0
LoadAgrees = (b : Composition) (s : State) → load b ≡ ok s →
    (b.wrapper ≡ 1 → process_of b s ≋ W1 tt (handler (table b 1)))
    × (b.wrapper ≡ 2 → process_of b s ≋ W2 tt (handler (table b 1)) (handler (table b 2)))
    × (b.wrapper ≡ 3 → process_of b s ≋ L tt (handler (table b 1)))

-- THE NAMES BROUGHT FROM OUTSIDE are no part of a state. So the promises are about every list X of outside names with which the names known
-- outside have the free names of the state's process among them, as document 004 asks of A ⊢ P
pub record Brought (b : Composition) (s : State) (X : List ℕ) : Type 0 where
  pub outside : every is_outside X ≡ true
  pub free : Fn⊆ (process_of b s) (known_of X s)

-- the outside names of a label: X grows by them behind it
abbrev pub outside_in : Label → List ℕ
outside_in l = keep is_outside (lnames l)

-- there is such an X in every state, any will do after a load, and one that has grown by a label will do behind it
unfoldable pub BroughtKept : Type 0
BroughtKept =
    ((b : Composition) (s : State) → ready b s ≡ true → (X : List ℕ) × Brought b s X)
    × ((b : Composition) (s : State) (X : List ℕ) → load b ≡ ok s → every is_outside X ≡ true → Brought b s X)
    × ((b : Composition) (s : State) (X : List ℕ) (k : Step) (l : Label) → ready b s ≡ true → Brought b s X → Says (wrapper_of b) (step b s k).answer l → Brought b (step b s k).after (outside_in l ++ X))

-- SOUND: a label is given only where the calculus has that transition at that place, and the next state is where it leads

-- an answer that is no refusal
abbrev pub IsLabelled : Answer → Type 0
IsLabelled (labelled l n v) = Unit {0}
IsLabelled (refusal k n) = ⊥

unfoldable pub SoundAt : (A : List ℕ) → Composition → State → Step → Label → Type 0
SoundAt A b s k l = (w : Participants Mark) × At (wrapper_of b) k w × Asks k l × (answer_side (step b s k).answer ≡ k.side)
    × (R : Proc Mark []) × Trans A (process (conf_of b s)) l w R × (plainly R ≋ process_of b (step b s k).after)

-- every answer that is no refusal has a label of the calculus; and each such label is of a transition
unfoldable pub Sound : Type 0
Sound = (b : Composition) (s : State) (k : Step) → ready b s ≡ true
    → (IsLabelled (step b s k).answer → (l : Label) × Says (wrapper_of b) (step b s k).answer l)
    × ((X : List ℕ) (l : Label) → Brought b s X → Says (wrapper_of b) (step b s k).answer l → SoundAt (known_of X s) b s k l)

-- THE NAMES KNOWN OUTSIDE grow by the names of a label that is given, and by nothing else
unfoldable pub NamesGrow : Type 0
NamesGrow = (b : Composition) (s : State) (X : List ℕ) (k : Step) (l : Label) → ready b s ≡ true → Says (wrapper_of b) (step b s k).answer l
    → (z : ℕ) → In (known_of (outside_in l ++ X) (step b s k).after) z ↔ (In (known_of X s) z ⊎ In (lnames l) z)

-- WHAT EXCUSES THE REFUSAL OF A LEGAL TRANSITION, by document 01's numbers and not by what `step` answers

abbrev pub parts_of : State → ℕ → List Particle
parts_of s n = (side s n).core.contents.particles

-- a replicated input stays
abbrev pub stays : Bool → ℕ
stays true = 1
stays false = 0

-- a side that somebody takes from sends on `mid`: to its shelf
abbrev pub shelves? : Wrapper → ℕ → ℕ → Bool
shelves? w side x = shelves w side && eqb x mid_name

-- 17: a limit that the state after would pass
pub data Over (b : Composition) (s : State) : Step → Type 0 where
  -- a message comes, at enter with its copies; at pass the copies alone come
  enter_full : {k : Step} → k.kind ≡ 1 → 16 ≤ length (side s k.side).core.lobby + length (wrapper_of b).copies → Over b s k
  pass_full : {k : Step} → k.kind ≡ 6 → 17 ≤ length (side s k.side).core.lobby + length (wrapper_of b).copies → Over b s k
  take_full : {k : Step} → k.kind ≡ 8 → 16 ≤ length (side s k.side).core.lobby → Over b s k
  down_full : {k : Step} → k.kind ≡ 2 → 32 ≤ length (parts_of s k.side) → Over b s k
  up_full : {k : Step} {x : ℕ} {v : List ℕ} → k.kind ≡ 3 → get_elem? (parts_of s k.side) k.i ≡ some (output 0 x to_parent v)
      → T (not (shelves? (wrapper_of b) k.side x)) → 16 ≤ length (side s k.side).core.lobby → Over b s k
  shelf_full : {k : Step} {x : ℕ} {v : List ℕ} → k.kind ≡ 3 → get_elem? (parts_of s k.side) k.i ≡ some (output 0 x to_parent v)
      → T (shelves? (wrapper_of b) k.side x) → 32 ≤ length (side s k.side).core.shelf → Over b s k
  -- the output goes, a plain input too, and the body's particles, boxes and names come
  meet_full : {k : Step} {at n m x g : ℕ} {vs : List (List ℕ)} {r : Bool} {p : List ℕ} {a : Term} → k.kind ≡ 5
      → get_elem? (parts_of s k.side) k.j ≡ some (input at n vs) → term_at (table b k.side) n ≡ inp m r x g p a
      → (33 + 2 ≤ length (parts_of s k.side) + stays r + particles_in a)
      ⊎ ((17 ≤ length (side s k.side).core.contents.boxes + boxes_in a) ⊎ (257 ≤ (side s k.side).core.contents.minted + new_names_in a))
      → Over b s k

-- 16: an output that unfolds has a value over 16 words; one under an input does not unfold
abbrev pub long : Code → (ℕ → Val ℕ) → Bool
long cnil ρ = false
long (cpar c d) ρ = long c ρ || long d ρ
long (cbox n c) ρ = long c ρ
long (cnew n c) ρ = long c (with_pat (named n) (λ x. nm 0) ρ)
long (cout x i v) ρ = ltb 16 (length (vwords (vsub v ρ)))
long (cinp m x i p c) ρ = false

-- 11: the label's value is over 16 words, or has a name that is neither public nor minted nor from outside; 12: it has a minted name that has
-- left by no outlet. Each cause is of the kinds that it may excuse: 11 and 12 of 1, 16 of 5, 17 of those in `Over`
pub data Excused (b : Composition) (s : State) (k : Step) : Label → ℕ → Type 0 where
  by_11_long : {x : ℕ} {o : Tag ℕ} {v : Val ℕ} → k.kind ≡ 1 → T (ltb 16 (length (vwords v))) → Excused b s k (recv x o v) 11
  by_11_name : {x : ℕ} {o : Tag ℕ} {v : Val ℕ} → k.kind ≡ 1 → T (foreign v) → Excused b s k (recv x o v) 11
  by_12 : {x : ℕ} {o : Tag ℕ} {v : Val ℕ} → k.kind ≡ 1 → T (some_name (λ n. minted_number n && not (known s n)) (names v)) → Excused b s k (recv x o v) 12
  by_16 : {at at' n m x x' g : ℕ} {vs : List (List ℕ)} {r : Bool} {p : List ℕ} {a : Term} {o : STag} {v : List ℕ} {σ : Vars (shape (pat_of p)) → Val ℕ}
      → k.kind ≡ 5 → get_elem? (parts_of s k.side) k.i ≡ some (output at' x' o v) → get_elem? (parts_of s k.side) k.j ≡ some (input at n vs)
      → term_at (table b k.side) n ≡ inp m r x g p a → match (shape (pat_of p)) (val_of v) ≡ some σ
      → T (long (code_of a) (with_pat (pat_of p) σ (env_of (env_at (table b k.side) n vs)))) → Excused b s k tau 16
  by_17 : {l : Label} → Over b s k → Excused b s k l 17

-- COMPLETE

-- choice of fresh names aside: a renaming, one to one, that keeps the names of A
pub record Rename (A : List ℕ) : Type 0 where
  pub to : ℕ → ℕ
  pub back : ℕ → ℕ
  pub to_back : (z : ℕ) → to (back z) ≡ z
  pub back_to : (z : ℕ) → back (to z) ≡ z
  pub keeps : (z : ℕ) → In A z → to z ≡ z

abbrev pub renamed : Label → (ℕ → ℕ) → Label
renamed tau f = tau
renamed (send x o v) f = send (f x) (tren o f) (vren v f)
renamed (recv x o v) f = recv (f x) (tren o f) (vren v f)

-- the step has the transition's label and leads to its target, up to a renaming that keeps the names of A
pub record Met (A : List ℕ) (b : Composition) (s : State) (l : Label) (R : Proc Mark []) (k : Step) : Type 0 where
  pub names : Rename A
  pub label : Says (wrapper_of b) (step b s k).answer (renamed l names.to)
  pub side : answer_side (step b s k).answer ≡ k.side
  pub target : plainly (ren {r = []} R names.to) ≋ process_of b (step b s k).after

-- a label that can be asked for in words: no name of its value reads as a tuple word
abbrev pub Written : Label → Type 0
Written tau = Unit {0}
Written (send x o v) = Unit {0}
Written (recv x o v) = T (not (some_name is_tuple (names v)))

-- each transition has a step at its place that asks for its label; and each such step has that label and leads to the
-- transition's target, or is refused for a cause that excuses it
unfoldable pub Complete : Type 0
Complete = (b : Composition) (s : State) (X : List ℕ) (l : Label) (w : Participants Mark) (R : Proc Mark []) → ready b s ≡ true → every is_outside X ≡ true
    → Trans (known_of X s) (process (conf_of b s)) l w R → Written l
    → ((k : Step) × At (wrapper_of b) k w × Asks k l)
    × ((k : Step) → At (wrapper_of b) k w → Asks k l → Met (known_of X s) b s l R k ⊎ ((n : ℕ) × ((step b s k).answer ≡ refusal n k.side) × Excused b s k l n))
