-- The eight steps.
use Rattle.std.specs.Prelude.{Bool, true, false, not, cond, List, [], ◌∷◌, ◌++◌, map, ℕ, zero, suc, ◌+◌, ◌-◌, ◌*◌, leb, ltb, eqb, length, get_or, set}
use Rattle.std.proofs.Math.Option.{Option, none, some}
use Rattle.model.specs.Basics.{◌&◌, ◌or◌, choose, Res, refuse, done, bind, need, every, one_of, remove, pick}
use Rattle.model.specs.Values.{is_value, is_minted, side_of, serial, Env, matches, binders, word, extend}
use Rattle.model.specs.Table.{Term, nil, par, box, new, out, inp, term}
use Rattle.model.specs.Wrapper.{Route, has_side, shelves}
use Rattle.model.specs.Side.{Tag, within, to_parent, from_parent, to_child, from_child, Particle, output, input, Box, Status, down, arrived, leaving, Message, Contents, Core, Side, State, limits, side, put_side, taken_at, has_taken}
use Rattle.model.specs.Unfolding.{tag_of, add_particle, unfolds, defined}
use Rattle.model.specs.Load.{Composition, wrapper_of, Setting, setting}
use Rattle.model.specs.WellFormed.{env_at, shelf_of, ready}

-- a step asked for; words are kind 1's value
pub record Step : Type 0 where
  pub kind : ℕ
  pub side : ℕ
  pub i : ℕ
  pub j : ℕ
  pub words : List ℕ

-- `logs` is the label log, of wrapper 3 alone
pub data Label : Type 0 where
  silent enters leaves logs : Label

-- what a step that is not refused does: its label with the label's value, and the side's core after it
pub record Moved : Type 0 where
  pub label : Label
  pub val : List ℕ
  pub core : Core

-- labels not given are silent, with no value
abbrev pub silently : Core → Res Moved
silently s = done (record { label = silent; val = []; core = s })

abbrev pub with_contents : Core → Contents → Core
with_contents s u = record { contents = u; lobby = s.lobby; shelf = s.shelf; taken = s.taken }

abbrev pub with_lobby : Core → List Message → Core
with_lobby s l = record { contents = s.contents; lobby = l; shelf = s.shelf; taken = s.taken }

abbrev pub with_particles : Contents → List Particle → Contents
with_particles u p = record { particles = p; boxes = u.boxes; minted = u.minted }

-- a leaving copy of a value on each channel of a list
abbrev pub copied : (copies : List ℕ) → List ℕ → List Message
copied cs v = map (λ c. record { status = leaving; chan = c; val = v }) cs

-- 1 Enter: copies that leave, then a down message on `in`, are added to the lobby. `known` are the minted names that have left
unfoldable pub enter : (copies : List ℕ) → (known : ℕ → Bool) → Core → List ℕ → Res Moved
enter cs known s ws =
    need (is_value ws) 11
    (need (every (λ w. not (is_minted w) or known w) ws) 12
    (done (record { label = enters; val = ws; core = with_lobby s (s.lobby ++ (copied cs ws ++ (record { status = down; chan = 0; val = ws } ∷ []))) })))

abbrev pub is_down : Status → Bool
is_down down = true
is_down arrived = false
is_down leaving = false

abbrev pub is_arrived : Status → Bool
is_arrived down = false
is_arrived arrived = true
is_arrived leaving = false

abbrev pub is_leaving : Status → Bool
is_leaving down = false
is_leaving arrived = false
is_leaving leaving = true

-- 2 Down: lobby i, being down, becomes a particle of box 0, received from the parent
unfoldable pub go_down : Core → ℕ → Res Moved
go_down s i =
    pick s.lobby i λ m.
    need (is_down m.status) 13
    (silently (with_lobby (with_contents s (add_particle s.contents (output 0 m.chan from_parent m.val))) (remove s.lobby i)))

abbrev pub is_to_parent : Tag → Bool
is_to_parent within = false
is_to_parent to_parent = true
is_to_parent from_parent = false
is_to_parent (to_child n) = false
is_to_parent (from_child n) = false

-- output i out of box b, on channel ch with value v: from box 0 to the lobby as arrived, or to the shelf; from another
-- box to its parent, received from the child it left
unfoldable pub up_from : Setting → Core → ℕ → (b ch : ℕ) → (v : List ℕ) → Res Moved
up_from c s i zero ch v =
    choose (shelves c.wrapper c.side & eqb ch 2)
    (silently (record { contents = with_particles s.contents (remove s.contents.particles i); lobby = s.lobby; shelf = s.shelf ++ (v ∷ []); taken = s.taken }))
    (silently (with_lobby (with_contents s (with_particles s.contents (remove s.contents.particles i))) (s.lobby ++ (record { status = arrived; chan = ch; val = v } ∷ []))))
up_from c s i (suc b) ch v =
    pick s.contents.boxes (suc b) λ x.
    silently (with_contents s (with_particles s.contents (set s.contents.particles i (output x.parent ch (from_child x.name) v))))

unfoldable pub up_particle : Setting → Core → ℕ → Particle → Res Moved
up_particle c s i (output b ch g v) = need (is_to_parent g) 13 (up_from c s i b ch v)
up_particle c s i (input b n vs) = refuse 13

-- 3 Up: output i with tag parent
unfoldable pub up : Setting → Core → ℕ → Res Moved
up c s i = pick s.contents.particles i (up_particle c s i)

-- the tag is child, of a box named m
abbrev pub is_to_child : Tag → ℕ → Bool
is_to_child within m = false
is_to_child to_parent m = false
is_to_child from_parent m = false
is_to_child (to_child n) m = eqb n m
is_to_child (from_child n) m = false

-- box j is a child of the output's box with the tag's name; box 0's name never occurs
unfoldable pub descend_particle : Core → ℕ → ℕ → Box → Particle → Res Moved
descend_particle s i j x (output b ch g v) =
    need (not (eqb j 0) & (eqb x.parent b & is_to_child g x.name)) 13
    (silently (with_contents s (with_particles s.contents (set s.contents.particles i (output j ch from_parent v)))))
descend_particle s i j x (input b n vs) = refuse 13

-- 4 Descend: output i moves into box j, received from the parent; the channel plays no part
unfoldable pub descend : Core → ℕ → ℕ → Res Moved
descend s i j = pick s.contents.particles i λ p. pick s.contents.boxes j λ x. descend_particle s i j x p

-- an output's tag and an input's: within with within, received from parent with parent, from child n with child n
abbrev pub tags_fit : Tag → Tag → Bool
tags_fit within within = true
tags_fit within to_parent = false
tags_fit within from_parent = false
tags_fit within (to_child m) = false
tags_fit within (from_child m) = false
tags_fit to_parent t = false
tags_fit from_parent within = false
tags_fit from_parent to_parent = true
tags_fit from_parent from_parent = false
tags_fit from_parent (to_child m) = false
tags_fit from_parent (from_child m) = false
tags_fit (to_child n) t = false
tags_fit (from_child n) within = false
tags_fit (from_child n) to_parent = false
tags_fit (from_child n) from_parent = false
tags_fit (from_child n) (to_child m) = eqb n m
tags_fit (from_child n) (from_child m) = false

-- the output i goes, and a plain input j too; a replicated one stays
abbrev pub without : (replicated : Bool) → List Particle → ℕ → ℕ → List Particle
without true l i j = remove l i
without false l i j = cond (ltb i j) (remove (remove l j) i) (remove (remove l i) j)

-- an output in box b and the input at a node, in box b' under ρ: one box, one channel, fitting tags; then the body
-- unfolds with the bindings
unfoldable pub meet_term : Setting → Core → (i j : ℕ) → (b ch : ℕ) → Tag → (v : List ℕ) → (b' : ℕ) → Env → Term → Res Moved
meet_term c s i j b ch g v b' ρ (nil n) = refuse 13
meet_term c s i j b ch g v b' ρ (par n l r) = refuse 13
meet_term c s i j b ch g v b' ρ (box n x a) = refuse 13
meet_term c s i j b ch g v b' ρ (new n x a) = refuse 13
meet_term c s i j b ch g v b' ρ (out n c' g' v') = refuse 13
meet_term c s i j b ch g v b' ρ (inp n again c' g' p a) =
    need (eqb b b' & (eqb ch (word ρ c') & tags_fit g (tag_of ρ g'))) 13
    (bind (matches p 1 v) λ m.
    need (defined a (extend ρ (binders p) m.bound)) 15
    (silently (with_contents s (unfolds c.side a (extend ρ (binders p) m.bound) b (with_particles s.contents (without again s.contents.particles i j))))))

unfoldable pub meet_particles : Setting → Core → (i j : ℕ) → Particle → Particle → Res Moved
meet_particles c s i j (output b ch g v) (input b' n vs) = meet_term c s i j b ch g v b' (env_at c.table n vs) (term c.table n)
meet_particles c s i j (output b ch g v) (output b' ch' g' v') = refuse 13
meet_particles c s i j (input b n vs) p = refuse 13

-- 5 Meet: output i and input j
unfoldable pub meet : Setting → Core → ℕ → ℕ → Res Moved
meet c s i j = pick s.contents.particles i λ p. pick s.contents.particles j λ q. meet_particles c s i j p q

-- 6 Pass: lobby i, arrived on `out`, becomes leaving; copies that leave are added last
unfoldable pub pass : (copies : List ℕ) → Core → ℕ → Res Moved
pass cs s i =
    pick s.lobby i λ m.
    need (is_arrived m.status & eqb m.chan 1) 13
    (silently (with_lobby s (set s.lobby i (record { status = leaving; chan = 1; val = m.val }) ++ copied cs m.val)))

-- the label of a message that leaves on a channel: out for `out`, log for the other
abbrev pub leaving_on : ℕ → Label
leaving_on c = cond (eqb c 1) leaves logs

-- 7 Leave: lobby i, leaving, is removed. Label out or log, with its value
unfoldable pub leave : Core → ℕ → Res Moved
leave s i =
    pick s.lobby i λ m.
    need (is_leaving m.status) 13
    (done (record { label = leaving_on m.chan; val = m.val; core = with_lobby s (remove s.lobby i) }))

-- 8 Take: shelf i of a source, not yet taken, is marked and added to the taker's lobby as down on `mid`
unfoldable pub takes : (source : ℕ) → (shelf : List (List ℕ)) → Core → ℕ → Res Moved
takes m sh s i =
    pick sh i λ v.
    need (not (has_taken s m i)) 13
    (silently (record { contents = s.contents; lobby = s.lobby ++ (record { status = down; chan = 2; val = v } ∷ []); shelf = s.shelf; taken = set s.taken (taken_at m i) true }))

-- the route by which a side takes with this j; 10 where there is none
unfoldable pub route_to : List Route → (side j : ℕ) → Res Route
route_to [] n j = refuse 10
route_to (r ∷ rs) n j = choose (eqb r.receiver n & eqb r.j j) (done r) (route_to rs n j)

-- kinds 2 to 7: a side's own step, which sees its setting and its core, and nothing else. Value words, and j where it is
-- unused, give 10
unfoldable pub inner : Setting → Core → Step → Res Moved
inner c s x =
    need (eqb (length x.words) 0) 10
    (choose (eqb x.kind 4) (descend s x.i x.j)
    (choose (eqb x.kind 5) (meet c s x.i x.j)
    (need (eqb x.j 0) 10
    (choose (eqb x.kind 2) (go_down s x.i)
    (choose (eqb x.kind 3) (up c s x.i)
    (choose (eqb x.kind 6) (pass c.wrapper.copies s x.i)
    (choose (eqb x.kind 7) (leave s x.i) (refuse 10))))))))

-- kinds 1 to 8: of the rest a side sees which minted names may enter, and the shelves that it may take from
unfoldable pub local : Setting → (known : ℕ → Bool) → (shelf : ℕ → List (List ℕ)) → Core → Step → Res Moved
local c known sh s x =
    choose (eqb x.kind 1) (need (eqb x.i 0 & eqb x.j 0) 10 (enter c.wrapper.copies known s x.words))
    (choose (eqb x.kind 8) (need (eqb (length x.words) 0) 10 (bind (route_to c.wrapper.routes c.side x.j) λ r. takes r.source (sh r.source) s x.i))
    (inner c s x))

-- an output's value has at most 16 words
abbrev pub short : Particle → Bool
short (output b c g v) = leb (length v) 16
short (input b n vs) = true

-- 16 and 17 are tests on the state after: no output has a value over 16 words (in a well-formed state only one that has
-- just unfolded can), and no limit is passed
unfoldable pub settled : Res Moved → Res Moved
settled r = bind r λ m. need (every short m.core.contents.particles) 16 (need (limits m.core) 17 (done m))

-- the place of a minted name among the marks
abbrev pub mark_of : ℕ → ℕ
mark_of w = 256 * (side_of w - 1) + serial w

abbrev pub marked : List Bool → ℕ → Bool
marked l w = get_or l (mark_of w) false

-- a word that is a minted name is marked
unfoldable pub mark1 : List Bool → ℕ → List Bool
mark1 l w = cond (is_minted w) (set l (mark_of w) true) l

abbrev pub mark_all : List Bool → List ℕ → List Bool
mark_all l [] = l
mark_all l (w ∷ ws) = mark_all (mark1 l w) ws

-- a side's marks after a label: names that leave by its outlet, or on `log`, are marked
abbrev pub marks : Label → List ℕ → List Bool → List Bool
marks silent v l = l
marks enters v l = l
marks leaves v l = mark_all l v
marks logs v l = mark_all l v

-- 12: a minted name may enter once it has left by an outlet
abbrev pub known : State → ℕ → Bool
known s w = one_of (λ o. marked o.left w) s.sides

-- a label with its side and value, or a refusal with its number and the side as asked
pub data Answer : Type 0 where
  labelled : Label → (side : ℕ) → (val : List ℕ) → Answer
  refusal : (number side : ℕ) → Answer

abbrev pub answer_of : (side : ℕ) → Res Moved → Answer
answer_of n (refuse k) = refusal k n
answer_of n (done m) = labelled m.label n m.val

-- a refused step changes nothing
abbrev pub side_after : Side → Res Moved → Side
side_after s (refuse k) = s
side_after s (done m) = record { core = m.core; left = marks m.label m.val s.left }

pub record Result : Type 0 where
  pub answer : Answer
  pub after : State

-- a step: 10 for tables that load refuses, a state not well formed, and a side the wrapper lacks
unfoldable pub step : Composition → State → Step → Result
step b s x =
    elim (ready b s & has_side (wrapper_of b) x.side) [
      | false ↦ record { answer = refusal 10 x.side; after = s }
      | true ↦ let r = settled (local (setting b x.side) (known s) (shelf_of s) (side s x.side).core x) in
          record { answer = answer_of x.side r; after = put_side s x.side (side_after (side s x.side) r) }
    ]

-- the answer to a step of what may be no state, as where a count passes its array: 10 there
unfoldable pub answer_to : Composition → Option State → Step → Answer
answer_to b none x = refusal 10 x.side
answer_to b (some s) x = (step b s x).answer

unfoldable pub after_step : Composition → Option State → Step → Option State
after_step b none x = none
after_step b (some s) x = some (step b s x).after
