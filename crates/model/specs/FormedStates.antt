-- States that are well formed for their tables, and states that are not: each clause of document 01's sentence, in its order,
-- with states that just meet it and states that just break it.
use Rattle.std.specs.Prelude.{◌≡◌, Bool, true, false, List, [], ◌∷◌, ◌++◌, map, ℕ, replicate, set}
use Rattle.model.specs.Side.{within, to_child, from_child, Particle, output, input, Box, Status, down, arrived, leaving, Message, Contents, Core, Side, State, side, put_side}
use Rattle.model.specs.Load.{Composition, Loaded, refused, ok, load, is_ok}
use Rattle.model.specs.WellFormed.{wf_state}
use Rattle.model.specs.Trials.{node, filter, pipeline, nothing_at_all, times}

pub record Row : Type 0 where
  pub composition : Composition
  pub state : State
  pub formed : Bool

-- the state that load gives
abbrev pub state_of : Loaded → State
state_of (refused r) = record { sides = [] }
state_of (ok s) = s

-- that state with a change is well formed; and is not
abbrev pub formed : Composition → (State → State) → Row
formed b f = record { composition = b; state = f (state_of (load b)); formed = true }

abbrev pub unformed : Composition → (State → State) → Row
unformed b f = record { composition = b; state = f (state_of (load b)); formed = false }

-- Changes: a side n put anew, and one thing of a side put anew

abbrev pub on : ℕ → (Side → Side) → State → State
on n f s = put_side s n (f (side s n))

abbrev pub both : (State → State) → (State → State) → State → State
both f g s = g (f s)

abbrev pub in_core : (Core → Core) → Side → Side
in_core f o = record { core = f o.core; left = o.left }

abbrev pub in_contents : (Contents → Contents) → Side → Side
in_contents f o = in_core (λ c. record { contents = f c.contents; lobby = c.lobby; shelf = c.shelf; taken = c.taken }) o

abbrev pub put_particles : List Particle → Side → Side
put_particles ps o = in_contents (λ u. record { particles = ps; boxes = u.boxes; minted = u.minted }) o

abbrev pub put_boxes : List Box → Side → Side
put_boxes bs o = in_contents (λ u. record { particles = u.particles; boxes = bs; minted = u.minted }) o

abbrev pub put_minted : ℕ → Side → Side
put_minted n o = in_contents (λ u. record { particles = u.particles; boxes = u.boxes; minted = n }) o

abbrev pub put_lobby : List Message → Side → Side
put_lobby l o = in_core (λ c. record { contents = c.contents; lobby = l; shelf = c.shelf; taken = c.taken }) o

abbrev pub put_shelf : List (List ℕ) → Side → Side
put_shelf l o = in_core (λ c. record { contents = c.contents; lobby = c.lobby; shelf = l; taken = c.taken }) o

abbrev pub put_taken : List Bool → Side → Side
put_taken l o = in_core (λ c. record { contents = c.contents; lobby = c.lobby; shelf = c.shelf; taken = l }) o

abbrev pub put_left : List Bool → Side → Side
put_left l o = record { core = o.core; left = l }

-- Words of the rows

-- a handler that does nothing, under the filter; and one on each side of the pipeline
abbrev pub alone : Composition
alone = filter nothing_at_all []

abbrev pub recorded : Composition
recorded = record { wrapper = 3; tables = alone.tables }

abbrev pub joined : Composition
joined = pipeline nothing_at_all [] nothing_at_all []

-- an output in box 0, and one in box 1
abbrev pub plain : Particle
plain = output 0 5 within (20 ∷ [])

abbrev pub in_box1 : Particle
in_box1 = output 1 5 within (20 ∷ [])

abbrev pub box : (name parent : ℕ) → Box
box n p = record { name = n; parent = p }

abbrev pub message : Status → ℕ → Message
message k c = record { status = k; chan = c; val = 20 ∷ [] }

-- one mark of 512 names that left, and of 64 that are taken
abbrev pub left_at : ℕ → List Bool
left_at i = set (replicate 512 false) i true

abbrev pub taken_only : ℕ → List Bool
taken_only i = set (replicate 64 false) i true

-- counts keep their limits, on each side
abbrev pub limit_rows : List Row
limit_rows =
    formed alone (on 1 (put_particles (times 32 plain)))
    ∷ unformed alone (on 1 (put_particles (times 33 plain)))
    ∷ formed alone (on 1 (put_boxes (box 0 0 ∷ times 15 (box 5 0))))
    ∷ unformed alone (on 1 (put_boxes (box 0 0 ∷ times 16 (box 5 0))))
    ∷ formed alone (on 1 (put_minted 256))
    ∷ unformed alone (on 1 (put_minted 257))
    ∷ formed alone (on 1 (put_lobby (times 16 (message down 0))))
    ∷ unformed alone (on 1 (put_lobby (times 17 (message down 0))))
    ∷ formed joined (on 1 (put_shelf (times 32 (20 ∷ []))))
    ∷ unformed joined (on 1 (put_shelf (times 33 (20 ∷ []))))
    ∷ formed joined (on 2 (put_lobby (times 16 (message down 2))))
    ∷ unformed joined (on 2 (put_lobby (times 17 (message down 2))))
    ∷ []

-- each box but box 0 has an earlier box as parent
abbrev pub parent_rows : List Row
parent_rows =
    formed alone (on 1 (put_boxes (box 0 0 ∷ box 5 0 ∷ box 6 1 ∷ [])))
    ∷ unformed alone (on 1 (put_boxes (box 0 0 ∷ box 5 0 ∷ box 6 2 ∷ [])))
    ∷ unformed alone (on 1 (put_boxes (box 0 0 ∷ box 5 1 ∷ box 6 0 ∷ [])))
    ∷ unformed alone (on 1 (put_boxes (box 0 0 ∷ box 5 2 ∷ box 6 0 ∷ [])))
    ∷ []

-- each particle's box exists. `5 y. 0 | !5 y. 0 | 5 <20>`: the inputs are nodes 1 and 3, node 7 is past the table
abbrev pub waiting : Composition
waiting = filter (node 1 1 2 0 0 (node 5 5 0 0 5 (node 1 3 4 0 0 (node 6 5 0 0 6 (node 4 5 0 1 0 (node 0 0 0 0 0 nothing_at_all)))))) (10 ∷ 20 ∷ [])

abbrev pub box_rows : List Row
box_rows =
    formed alone (both (on 1 (put_boxes (box 0 0 ∷ box 5 0 ∷ []))) (on 1 (put_particles (in_box1 ∷ []))))
    ∷ unformed alone (on 1 (put_particles (in_box1 ∷ [])))
    ∷ formed waiting (both (on 1 (put_boxes (box 0 0 ∷ box 5 0 ∷ []))) (on 1 (put_particles (input 1 1 [] ∷ []))))
    ∷ unformed waiting (on 1 (put_particles (input 1 1 [] ∷ [])))
    ∷ []

-- each waiting input is such a node
abbrev pub node_rows : List Row
node_rows =
    formed waiting (on 1 (put_particles (input 0 1 [] ∷ [])))
    ∷ formed waiting (on 1 (put_particles (input 0 3 [] ∷ [])))
    ∷ unformed waiting (on 1 (put_particles (input 0 0 [] ∷ [])))
    ∷ unformed waiting (on 1 (put_particles (input 0 4 [] ∷ [])))
    ∷ unformed waiting (on 1 (put_particles (input 0 5 [] ∷ [])))
    ∷ unformed waiting (on 1 (put_particles (input 0 7 [] ∷ [])))
    ∷ []

-- with one well-formed value for every bound name in force. `5 (x y). 5 z. 5 z. 0`: none at node 0, two at node 1, three at node 2
abbrev pub binding : Composition
binding = filter (node 5 5 0 0 1 (node 5 5 0 3 2 (node 5 5 0 3 3 nothing_at_all))) (4000002 ∷ 10 ∷ 11 ∷ 12 ∷ [])

-- node 1 waits with 20 and a second value
abbrev pub with_second : List ℕ → State → State
with_second v s = on 1 (put_particles (input 0 1 ((20 ∷ []) ∷ v ∷ []) ∷ [])) s

abbrev pub value_rows : List Row
value_rows =
    formed binding (on 1 (put_particles (input 0 0 [] ∷ [])))
    ∷ unformed binding (on 1 (put_particles (input 0 0 ((20 ∷ []) ∷ []) ∷ [])))
    ∷ formed binding (on 1 (put_particles (input 0 1 (times 2 (20 ∷ [])) ∷ [])))
    ∷ unformed binding (on 1 (put_particles (input 0 1 (times 1 (20 ∷ [])) ∷ [])))
    ∷ unformed binding (on 1 (put_particles (input 0 1 (times 3 (20 ∷ [])) ∷ [])))
    ∷ formed binding (on 1 (put_particles (input 0 2 (times 3 (20 ∷ [])) ∷ [])))
    ∷ formed binding (with_second (4000015 ∷ times 15 20))
    ∷ unformed binding (with_second (4000008 ∷ times 7 20 ++ (4000008 ∷ times 8 20)))
    ∷ unformed binding (with_second [])
    ∷ unformed binding (with_second (4000001 ∷ []))
    ∷ unformed binding (with_second (20 ∷ 21 ∷ []))
    ∷ unformed binding (with_second (4999999 ∷ []))
    ∷ []

-- no tuple where 15 forbids one. `5 y.` over the nodes from 1 on, where node 1 waits with a value for y, which is 10; z is 11
abbrev pub under : List ℕ → Composition
under nodes = filter (node 5 5 0 0 1 nodes) (10 ∷ 11 ∷ 20 ∷ [])

abbrev pub with_y : List ℕ → State → State
with_y v s = on 1 (put_particles (input 0 1 (v ∷ []) ∷ [])) s

-- y is used as channel, tag or box name by the input itself or below it; not as a value, and not where a pattern or `new`
-- hides it. Of two slots for y only the inner one is in sight
abbrev pub tuple_rows : List Row
tuple_rows =
    formed (under (node 5 10 0 1 2 nothing_at_all)) (with_y (20 ∷ []))
    ∷ unformed (under (node 5 10 0 1 2 nothing_at_all)) (with_y (4000000 ∷ []))
    ∷ unformed (under (node 5 5 12 1 2 nothing_at_all)) (with_y (4000000 ∷ []))
    ∷ unformed (under (node 5 5 0 1 2 (node 2 10 3 0 0 nothing_at_all))) (with_y (4000000 ∷ []))
    ∷ unformed (under (node 5 5 0 1 2 (node 4 5 12 2 0 []))) (with_y (4000000 ∷ []))
    ∷ unformed (under (node 5 5 0 1 2 (node 5 5 0 1 3 (node 4 10 0 2 0 [])))) (with_y (4000000 ∷ []))
    ∷ formed (under (node 5 5 0 1 2 (node 4 5 0 0 0 []))) (with_y (4000000 ∷ []))
    ∷ formed (under (node 5 5 0 0 2 (node 4 10 0 2 0 []))) (with_y (4000000 ∷ []))
    ∷ formed (under (node 5 5 0 1 2 (node 3 10 3 0 0 (node 4 10 0 2 0 [])))) (with_y (4000000 ∷ []))
    ∷ formed (under (node 5 5 0 0 2 (node 5 5 0 1 3 (node 4 10 0 2 0 [])))) (on 1 (put_particles (input 0 2 ((4000000 ∷ []) ∷ (20 ∷ []) ∷ []) ∷ [])))
    ∷ unformed (under (node 5 5 0 0 2 (node 5 5 0 1 3 (node 4 10 0 2 0 [])))) (on 1 (put_particles (input 0 2 ((20 ∷ []) ∷ (4000000 ∷ []) ∷ []) ∷ [])))
    ∷ []

-- all names and other values pass 11, and minted ones held are below their side's count: a word at each place that holds a
-- name, and at each that holds a value. Side 1 has minted one name, and side 2 two
abbrev pub minting : State → State
minting s = both (on 1 (put_minted 1)) (on 2 (put_minted 2)) s

abbrev pub name_places : List (ℕ → Side → Side)
name_places =
    (λ w. put_particles (output 0 w within (20 ∷ []) ∷ []))
    ∷ (λ w. put_particles (output 0 5 (to_child w) (20 ∷ []) ∷ []))
    ∷ (λ w. put_particles (output 0 5 (from_child w) (20 ∷ []) ∷ []))
    ∷ (λ w. put_boxes (box 0 0 ∷ box w 0 ∷ []))
    ∷ (λ w. put_lobby (message arrived w ∷ []))
    ∷ []

abbrev pub value_places : List (ℕ → Side → Side)
value_places =
    (λ w. put_particles (output 0 5 within (4000001 ∷ w ∷ []) ∷ []))
    ∷ (λ w. put_particles (input 0 1 ((4000001 ∷ w ∷ []) ∷ []) ∷ []))
    ∷ (λ w. put_lobby (record { status = down; chan = 0; val = 4000001 ∷ w ∷ [] } ∷ []))
    ∷ []

-- `5 y. 5 z. 0` on both sides: the input at node 1 has a value for y
abbrev pub holding : Composition
holding = pipeline (node 5 5 0 0 1 (node 5 5 0 0 2 nothing_at_all)) (10 ∷ []) (node 5 5 0 0 1 (node 5 5 0 0 2 nothing_at_all)) (10 ∷ [])

-- 63 and 64, the last that each side has minted, and the next
abbrev pub word_rows : ℕ → (ℕ → Side → Side) → List Row
word_rows n place =
    formed holding (both minting (on n (place 63)))
    ∷ unformed holding (both minting (on n (place 64)))
    ∷ formed holding (both minting (on n (place 65536)))
    ∷ unformed holding (both minting (on n (place 65537)))
    ∷ formed holding (both minting (on n (place 131073)))
    ∷ unformed holding (both minting (on n (place 131074)))
    ∷ []

abbrev pub place_rows : ℕ → List (ℕ → Side → Side) → List Row
place_rows n [] = []
place_rows n (place ∷ places) = word_rows n place ++ place_rows n places

-- a tuple is no name
abbrev pub not_name_rows : List (ℕ → Side → Side) → List Row
not_name_rows [] = []
not_name_rows (place ∷ places) = unformed holding (on 1 (place 4000000)) ∷ not_name_rows places

-- on side 1 with its shelf, on side 2; serials up to 255, of two sides; and names from outside, which have no count
abbrev pub name_rows : List Row
name_rows =
    place_rows 1 name_places ++ place_rows 1 value_places ++ place_rows 1 ((λ w. put_shelf ((4000001 ∷ w ∷ []) ∷ [])) ∷ []) ++ place_rows 2 name_places ++ place_rows 2 value_places ++ not_name_rows name_places
    ++ (formed alone (both (on 1 (put_minted 256)) (on 1 (put_particles (output 0 65791 within (20 ∷ []) ∷ []))))
    ∷ unformed alone (both (on 1 (put_minted 256)) (on 1 (put_particles (output 0 65792 within (20 ∷ []) ∷ []))))
    ∷ formed joined (both (on 2 (put_minted 256)) (on 1 (put_particles (output 0 131327 within (20 ∷ []) ∷ []))))
    ∷ unformed joined (both (on 2 (put_minted 256)) (on 1 (put_particles (output 0 131328 within (20 ∷ []) ∷ []))))
    ∷ unformed joined (both (on 2 (put_minted 256)) (on 1 (put_particles (output 0 196607 within (20 ∷ []) ∷ []))))
    ∷ formed joined (on 1 (put_particles (output 0 196608 within (20 ∷ []) ∷ [])))
    ∷ formed joined (on 2 (put_particles (output 0 196863 (to_child 196608) (4000002 ∷ 196863 ∷ 196863 ∷ []) ∷ [])))
    ∷ formed alone (on 1 (put_lobby (record { status = arrived; chan = 196863; val = 196608 ∷ [] } ∷ [])))
    ∷ unformed joined (on 1 (put_particles (output 0 196864 within (20 ∷ []) ∷ [])))
    ∷ unformed joined (on 1 (put_particles (output 0 1 within (196864 ∷ []) ∷ [])))
    ∷ [])

-- and so are those marked as left: side 1's names at places 0 to 255, side 2's at 256 to 511, on either side's record
abbrev pub left_rows : List Row
left_rows =
    formed joined (both minting (on 1 (put_left (left_at 0))))
    ∷ unformed joined (on 1 (put_left (left_at 0)))
    ∷ unformed joined (both minting (on 1 (put_left (left_at 1))))
    ∷ formed joined (both minting (on 1 (put_left (left_at 257))))
    ∷ unformed joined (both minting (on 1 (put_left (left_at 258))))
    ∷ formed joined (both minting (on 2 (put_left (left_at 0))))
    ∷ unformed joined (both minting (on 2 (put_left (left_at 1))))
    ∷ formed alone (both (on 1 (put_minted 256)) (on 1 (put_left (left_at 255))))
    ∷ unformed alone (both (on 1 (put_minted 255)) (on 1 (put_left (left_at 255))))
    ∷ unformed alone (both (on 1 (put_minted 256)) (on 1 (put_left (left_at 256))))
    ∷ []

-- box 0 stands on every side the wrapper has
abbrev pub box0_rows : List Row
box0_rows =
    formed joined (λ s. s)
    ∷ unformed joined (on 1 (put_boxes []))
    ∷ unformed joined (on 2 (put_boxes []))
    ∷ formed alone (λ s. s)
    ∷ unformed alone (on 1 (put_boxes []))
    ∷ []

-- under the pipeline nothing in side 1's lobby has arrived on `mid`
abbrev pub mid_rows : List Row
mid_rows =
    unformed joined (on 1 (put_lobby (message arrived 2 ∷ [])))
    ∷ formed joined (on 1 (put_lobby (message arrived 3 ∷ [])))
    ∷ formed joined (on 1 (put_lobby (message down 2 ∷ [])))
    ∷ formed joined (on 2 (put_lobby (message arrived 2 ∷ [])))
    ∷ formed alone (on 1 (put_lobby (message arrived 2 ∷ [])))
    ∷ []

-- taken marks stand only at shelf places that are filled, and are side 2's of side 1's shelf, at places 0 to 31
abbrev pub taken_rows : List Row
taken_rows =
    formed joined (both (on 1 (put_shelf ((20 ∷ []) ∷ []))) (on 2 (put_taken (taken_only 0))))
    ∷ unformed joined (on 2 (put_taken (taken_only 0)))
    ∷ unformed joined (both (on 1 (put_shelf ((20 ∷ []) ∷ []))) (on 2 (put_taken (taken_only 1))))
    ∷ formed joined (both (on 1 (put_shelf (times 32 (20 ∷ [])))) (on 2 (put_taken (taken_only 31))))
    ∷ unformed joined (both (on 1 (put_shelf (times 31 (20 ∷ [])))) (on 2 (put_taken (taken_only 31))))
    ∷ unformed joined (both (on 1 (put_shelf (times 32 (20 ∷ [])))) (on 2 (put_taken (taken_only 32))))
    ∷ unformed joined (both (on 1 (put_shelf ((20 ∷ []) ∷ []))) (on 1 (put_taken (taken_only 0))))
    ∷ []

-- the filter's and the logging wrapper's side 2 and shelf are empty; and so is side 2's shelf under the pipeline
abbrev pub empty_rows : List Row
empty_rows =
    unformed alone (on 1 (put_shelf ((20 ∷ []) ∷ [])))
    ∷ unformed alone (on 1 (put_taken (taken_only 0)))
    ∷ unformed alone (on 2 (put_particles (plain ∷ [])))
    ∷ unformed alone (on 2 (put_boxes (box 0 0 ∷ [])))
    ∷ unformed alone (on 2 (put_minted 1))
    ∷ unformed alone (on 2 (put_lobby (message down 0 ∷ [])))
    ∷ unformed alone (on 2 (put_shelf ((20 ∷ []) ∷ [])))
    ∷ unformed alone (on 2 (put_taken (taken_only 0)))
    ∷ unformed alone (both (on 1 (put_minted 1)) (on 2 (put_left (left_at 0))))
    ∷ unformed joined (on 2 (put_shelf ((20 ∷ []) ∷ [])))
    ∷ unformed recorded (on 1 (put_shelf ((20 ∷ []) ∷ [])))
    ∷ unformed recorded (on 1 (put_taken (taken_only 0)))
    ∷ unformed recorded (on 2 (put_particles (plain ∷ [])))
    ∷ unformed recorded (on 2 (put_boxes (box 0 0 ∷ [])))
    ∷ unformed recorded (on 2 (put_lobby (message down 0 ∷ [])))
    ∷ []

-- from the section on a side's state: a lobby message is down on `in` or `mid`, arrived on any channel, or leaving on `out`; under the logging
-- wrapper on `log` too (document 02, request 2.1)
abbrev pub lobby_rows : List Row
lobby_rows =
    formed alone (on 1 (put_lobby (message down 0 ∷ [])))
    ∷ unformed alone (on 1 (put_lobby (message down 1 ∷ [])))
    ∷ formed alone (on 1 (put_lobby (message down 2 ∷ [])))
    ∷ unformed alone (on 1 (put_lobby (message down 3 ∷ [])))
    ∷ formed alone (on 1 (put_lobby (message arrived 0 ∷ message arrived 1 ∷ message arrived 3 ∷ [])))
    ∷ unformed alone (on 1 (put_lobby (message leaving 0 ∷ [])))
    ∷ formed alone (on 1 (put_lobby (message leaving 1 ∷ [])))
    ∷ unformed alone (on 1 (put_lobby (message leaving 2 ∷ [])))
    ∷ unformed alone (on 1 (put_lobby (message leaving 3 ∷ [])))
    ∷ unformed joined (on 1 (put_lobby (message leaving 3 ∷ [])))
    ∷ unformed joined (on 2 (put_lobby (message leaving 3 ∷ [])))
    ∷ formed recorded (on 1 (put_lobby (message leaving 3 ∷ message leaving 1 ∷ message down 0 ∷ message arrived 3 ∷ message arrived 2 ∷ [])))
    ∷ unformed recorded (on 1 (put_lobby (message leaving 0 ∷ [])))
    ∷ unformed recorded (on 1 (put_lobby (message leaving 2 ∷ [])))
    ∷ unformed recorded (on 1 (put_lobby (message leaving 4 ∷ [])))
    ∷ unformed recorded (on 1 (put_lobby (message down 3 ∷ [])))
    ∷ []

-- a state has two sides, each with 512 marks of names that left and 64 taken marks, on a side that the wrapper lacks too
abbrev pub length_rows : List Row
length_rows =
    unformed joined (λ s. record { sides = side s 1 ∷ [] })
    ∷ unformed joined (λ s. record { sides = side s 1 ∷ side s 2 ∷ side s 2 ∷ [] })
    ∷ unformed joined (on 1 (put_left (replicate 511 false)))
    ∷ unformed joined (on 2 (put_left (replicate 513 false)))
    ∷ unformed joined (on 1 (put_taken (replicate 63 false)))
    ∷ unformed joined (on 2 (put_taken (replicate 65 false)))
    ∷ unformed alone (on 2 (put_left (replicate 511 false)))
    ∷ unformed alone (on 2 (put_left (replicate 513 false)))
    ∷ unformed alone (on 2 (put_taken (replicate 63 false)))
    ∷ unformed alone (on 2 (put_taken (replicate 65 false)))
    ∷ []

abbrev pub rows : List Row
rows =
    limit_rows ++ parent_rows ++ box_rows ++ node_rows ++ value_rows ++ tuple_rows ++ name_rows ++ left_rows ++ box0_rows ++ mid_rows ++ taken_rows ++ empty_rows ++ lobby_rows ++ length_rows

-- all the tables load, and the states are well formed as the rows say
unfoldable pub FormedStates : Type 0
FormedStates =
    (map (λ r. is_ok (load r.composition)) rows ≡ map (λ r. true) rows)
    × (map (λ r. wf_state r.composition r.state) rows ≡ map (λ r. r.formed) rows)
