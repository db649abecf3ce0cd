-- The process of the calculus that a table is, and that a state is. Each output, input and box of a state's process has a
-- mark that says which of the state's things it is.
use Rattle.std.specs.Prelude.{◌≡◌, Bool, true, false, not, cond, List, [], ◌∷◌, ◌++◌, map, ℕ, zero, suc, ◌+◌, ◌*◌, ltb, eqb}
use Rattle.calculus.specs.Syntax.{Val, Vals, nm, tup, vnil, vcons, ITag, Tag, plain, received_parent, received_child, Mode, once, replicated, Proc}
use Rattle.calculus.specs.Syntax.{within as iwithin, parent as iparent, child as ichild, out as pout}
use Rattle.calculus.specs.Named.{NPat, NPats, any, named, parts, pno, pand, Code, cnil, cpar, cbox, cnew, cout, cinp, proc}
use Rattle.calculus.specs.Wrappers.{in_name, out_name, mid_name, env_in, env_out, forward, forward_with}
use Rattle.calculus.specs.Tree.{Place, Item, Conf}
use Rattle.model.specs.Basics.{◌or◌, one_of, every}
use Rattle.model.specs.Values.{is_public, is_minted, is_outside, is_tuple, arity, distinct, Env, value}
use Rattle.model.specs.Table.{Table, Term, nil, par, box, new, out, inp, term}
use Rattle.model.specs.Side.{Particle, output, input, Box, Message, down, arrived, leaving, Core, State, side, has_taken}
use Rattle.model.specs.Side.{Status}
use Rattle.model.specs.Side.{Tag as STag, within, to_parent, from_parent, to_child, from_child}
use Rattle.model.specs.Wrapper.{Wrapper, Route, all_sides}
use Rattle.model.specs.Load.{Composition, wrapper_of, table}
use Rattle.model.specs.WellFormed.{env_at}
use Rattle.model.specs.Step.{known}

-- VALUES AND PATTERNS

-- the words of a value
abbrev mutual
  pub vwords : Val ℕ → List ℕ
  vwords (nm x) = x ∷ []
  vwords (tup vs) = (4000000 + vcount vs) ∷ vswords vs

  pub vcount : Vals ℕ → ℕ
  vcount vnil = 0
  vcount (vcons v vs) = suc (vcount vs)

  pub vswords : Vals ℕ → List ℕ
  vswords vnil = []
  vswords (vcons v vs) = vwords v ++ vswords vs

-- the first k of some values, and those behind them
abbrev pub first_v : ℕ → Vals ℕ → Vals ℕ
first_v zero vs = vnil
first_v (suc k) vnil = vnil
first_v (suc k) (vcons v vs) = vcons v (first_v k vs)

abbrev pub behind_v : ℕ → Vals ℕ → Vals ℕ
behind_v zero vs = vs
behind_v (suc k) vnil = vnil
behind_v (suc k) (vcons v vs) = behind_v k vs

-- n values off the front of some words: a tuple word of k parts is followed by them
unfoldable pub reads : List ℕ → ℕ → Vals ℕ
reads [] n = vnil
reads (w ∷ ws) zero = vnil
reads (w ∷ ws) (suc n) =
    elim (is_tuple w) [
      | true ↦ (let vs = reads ws (arity w + n) in vcons (tup (first_v (arity w) vs)) (behind_v (arity w) vs))
      | false ↦ vcons (nm w) (reads ws n)
    ]

abbrev pub head_v : Vals ℕ → Val ℕ
head_v vnil = nm 0
head_v (vcons v vs) = v

-- the value that a list of words is
unfoldable pub val_of : List ℕ → Val ℕ
val_of ws = head_v (reads ws 1)

-- the same for patterns
abbrev pub first_p : ℕ → NPats → NPats
first_p zero ps = pno
first_p (suc k) pno = pno
first_p (suc k) (pand p ps) = pand p (first_p k ps)

abbrev pub behind_p : ℕ → NPats → NPats
behind_p zero ps = ps
behind_p (suc k) pno = pno
behind_p (suc k) (pand p ps) = behind_p k ps

unfoldable pub reads_p : List ℕ → ℕ → NPats
reads_p [] n = pno
reads_p (w ∷ ws) zero = pno
reads_p (w ∷ ws) (suc n) =
    elim (is_tuple w) [
      | true ↦ (let ps = reads_p ws (arity w + n) in pand (parts (first_p (arity w) ps)) (behind_p (arity w) ps))
      | false ↦ elim (is_public w) [ true ↦ pand (named w) (reads_p ws n) | false ↦ pand any (reads_p ws n) ]
    ]

abbrev pub head_p : NPats → NPat
head_p pno = any
head_p (pand p ps) = p

unfoldable pub pat_of : List ℕ → NPat
pat_of ws = head_p (reads_p ws 1)

-- TABLES

-- a table's tag word, and a particle's tag
abbrev pub itag_of : ℕ → ITag ℕ
itag_of zero = iwithin
itag_of (suc zero) = iparent
itag_of (suc (suc n)) = ichild n

abbrev pub tag_out : STag → Tag ℕ
tag_out within = plain iwithin
tag_out to_parent = plain iparent
tag_out from_parent = received_parent
tag_out (to_child n) = plain (ichild n)
tag_out (from_child n) = received_child n

abbrev pub mode_of : Bool → Mode
mode_of true = replicated
mode_of false = once

-- the named process of a term: node numbers are forgotten
unfoldable pub code_of : Term → Code
code_of (nil n) = cnil
code_of (par n a b) = cpar (code_of a) (code_of b)
code_of (box n x a) = cbox x (code_of a)
code_of (new n x a) = cnew x (code_of a)
code_of (out n c g v) = cout c (itag_of g) (val_of v)
code_of (inp n r c g p a) = cinp (mode_of r) c (itag_of g) (pat_of p) (code_of a)

-- what a number of a table stands for in an environment; a number of a table is at most 63
unfoldable pub env_of : Env → ℕ → Val ℕ
env_of ρ n = cond (ltb n 64) (val_of (value ρ n)) (nm 0)

-- NAMES

-- the name of the wrapper's own box of a side: no table, value or minted name is it
abbrev pub own_name : ℕ → ℕ
own_name side = 80 + side

abbrev pub mint_of : ℕ → ℕ → ℕ
mint_of side i = 65536 * side + i

-- f 0 .. f (n - 1)
abbrev pub upto : ℕ → (ℕ → ℕ) → List ℕ
upto zero f = []
upto (suc n) f = upto n f ++ f n ∷ []

-- the names of a list that pass a test
abbrev pub keep : (ℕ → Bool) → List ℕ → List ℕ
keep f [] = []
keep f (x ∷ xs) = cond (f x) (x ∷ keep f xs) (keep f xs)

-- what each side has, one side's behind the other's
abbrev pub by_side : {A : Type 0} → (ℕ → List A) → (sides : List ℕ) → List A
by_side f [] = []
by_side f (n ∷ ns) = f n ++ by_side f ns

-- all names minted in a state
abbrev pub minted_of : State → List ℕ
minted_of s = by_side (λ n. upto (side s n).core.contents.minted (mint_of n)) all_sides

-- the names that are new in a state: the wrapper's own, and those minted that have left by no outlet
unfoldable pub new_of : Composition → State → List ℕ
new_of b s = map own_name (wrapper_of b).sides ++ keep (λ x. not (known s x)) (minted_of s)

-- the names known outside, document 004's A: the public ones and those of in1, out1 and so on, all up to 80; the names X that the
-- environment has brought, which no state tells; and those minted that have left
unfoldable pub known_of : (X : List ℕ) → State → List ℕ
known_of X s = upto 81 (λ i. i) ++ (X ++ keep (known s) (minted_of s))

-- the public names, those of the inlets and outlets under the pipeline, and the wrapper's own are different names; none is minted or from
-- outside, and no minted name is from outside
abbrev pub fixed_names : List ℕ
fixed_names = upto 64 (λ i. i) ++ (map env_in all_sides ++ (map env_out all_sides ++ map own_name all_sides))

unfoldable pub NamesDistinct : Type 0
NamesDistinct = (distinct fixed_names ≡ true) × (every (λ x. not (is_minted x or is_outside x)) fixed_names ≡ true) × ((x : ℕ) → is_minted x ≡ true → is_outside x ≡ false)

-- STATES

-- which of the state's things: particle i, box j, lobby message i and shelf place i of a side; the wrapper's inputs for
-- enter, pass and take (source and receiver); an output under a forwarder, and the environment's, are none of them
pub data Mark : Type 0 where
  part boxed lobby shelf : ℕ → ℕ → Mark
  enterer passer : ℕ → Mark
  taker : (source receiver : ℕ) → Mark
  inert : Mark

-- the site of box j of a side, of eight at most; site 0 is the wrapper's level
abbrev pub site_of : ℕ → ℕ → ℕ
site_of side j = 8 * j + side

-- things with their positions, from i on
abbrev pub numbered : {A B : Type 0} → (ℕ → A → B) → ℕ → List A → List B
numbered f i [] = []
numbered f i (x ∷ xs) = f i x ∷ numbered f (suc i) xs

-- the environment's name of the channel on which a message leaves: the side's outlet for `out`
abbrev pub leaves_as : Wrapper → (side chan : ℕ) → ℕ
leaves_as w side c = cond (eqb c out_name) (w.outlet side) c

module _ {M : Type 0} (mk : Mark → M) where
  -- a particle in its box: an output as it stands, an input under its environment
  abbrev pub part_item : Table → (side i : ℕ) → Particle → Item M
  part_item T side i (output b c g v) = record { site = site_of side b; what = pout (mk (part side i)) c (tag_out g) (val_of v) }
  part_item T side i (input b n vs) = record { site = site_of side b; what = proc [] (mk (part side i)) (code_of (term T n)) (env_of (env_at T n vs)) }

  -- a lobby message stands at the wrapper's level: down is bound for the handler's box, arrived came from it, leaving is
  -- bound for the environment
  abbrev pub msg_proc : Wrapper → (side i : ℕ) → Status → (chan : ℕ) → (val : List ℕ) → Proc M []
  msg_proc w side i down c v = pout (mk (lobby side i)) c (plain (ichild (own_name side))) (val_of v)
  msg_proc w side i arrived c v = pout (mk (lobby side i)) c (received_child (own_name side)) (val_of v)
  msg_proc w side i leaving c v = pout (mk (lobby side i)) (leaves_as w side c) (plain iparent) (val_of v)

  abbrev pub msg_item : Wrapper → (side i : ℕ) → Message → Item M
  msg_item w side i m = record { site = 0; what = msg_proc w side i m.status m.chan m.val }

  -- a shelf message is on `mid`, received from its side's box
  abbrev pub shelf_item : (side i : ℕ) → List ℕ → Item M
  shelf_item side i v = record { site = 0; what = pout (mk (shelf side i)) mid_name (received_child (own_name side)) (val_of v) }

  -- a side's shelf from place i on: what is taken is not there
  abbrev pub shelf_items : (gone : ℕ → Bool) → (side i : ℕ) → List (List ℕ) → List (Item M)
  shelf_items gone side i [] = []
  shelf_items gone side i (v ∷ vs) = cond (gone i) [] (shelf_item side i v ∷ []) ++ shelf_items gone side (suc i) vs

  abbrev pub side_items : Wrapper → (side : ℕ) → Table → Core → List (Item M)
  side_items w side T s = numbered (msg_item w side) 0 s.lobby ++ numbered (part_item T side) 0 s.contents.particles

  -- the wrapper's own inputs: in from the environment and out from the handler, with their copies; mid from a source to a receiver
  abbrev pub enters : Wrapper → ℕ → Item M
  enters w side = record { site = 0; what = forward_with [] (mk (enterer side)) (mk inert) w.copies (w.inlet side) iparent in_name (ichild (own_name side)) }

  abbrev pub passes : Wrapper → ℕ → Item M
  passes w side = record { site = 0; what = forward_with [] (mk (passer side)) (mk inert) w.copies out_name (ichild (own_name side)) (w.outlet side) iparent }

  abbrev pub takes : Route → Item M
  takes r = record { site = 0; what = forward [] (mk (taker r.source r.receiver)) (mk inert) mid_name (ichild (own_name r.source)) mid_name (ichild (own_name r.receiver)) }

  abbrev pub forwarders : Wrapper → List (Item M)
  forwarders w = map (enters w) w.sides ++ (map (passes w) w.sides ++ map takes w.routes)

  -- box 0 has the wrapper's own name and stands at the wrapper's level
  abbrev pub place_of : (side j : ℕ) → Box → Place M
  place_of side j b = record {
    site = site_of side j;
    parent = cond (eqb j 0) 0 (site_of side b.parent);
    name = cond (eqb j 0) (own_name side) b.name;
    mark = mk (boxed side j);
  }

  -- the last box first
  abbrev pub places_of : (side j : ℕ) → List Box → List (Place M) → List (Place M)
  places_of side j [] acc = acc
  places_of side j (b ∷ bs) acc = places_of side (suc j) bs (place_of side j b ∷ acc)

-- somebody has taken shelf place i of a side
abbrev pub is_gone : State → (side i : ℕ) → Bool
is_gone s n i = one_of (λ o. has_taken o.core n i) s.sides

-- the boxes of the sides of a list, the last box first
abbrev pub all_places : {M : Type 0} → (Mark → M) → State → List ℕ → List (Place M) → List (Place M)
all_places mk s [] acc = acc
all_places mk s (n ∷ ns) acc = all_places mk s ns (places_of mk n 0 (side s n).core.contents.boxes acc)

-- the configuration of a state, its marks named by mk
unfoldable pub conf_as : {M : Type 0} → (Mark → M) → Composition → State → Conf M
conf_as mk b s = record {
  boxes = all_places mk s (wrapper_of b).sides [];
  items = forwarders mk (wrapper_of b)
      ++ (by_side (λ n. shelf_items mk (is_gone s n) n 0 (side s n).core.shelf) (wrapper_of b).sides
      ++ by_side (λ n. side_items mk (wrapper_of b) n (table b n) (side s n).core) (wrapper_of b).sides);
  names = new_of b s;
  sites = 0;
  serial = 0;
}

abbrev pub conf_of : Composition → State → Conf Mark
conf_of b s = conf_as (λ m. m) b s
