-- The numbers of refusals: 1 to 7 from load; 10 to 17 from a step, with its side, and nothing is changed.
use mathlib.Core.Path.{◌≡◌, refl, sym, ◌∙◌, subst}
use mathlib.Core.Bool.{Bool, true, false, not}
use mathlib.Core.List.{List, [], ◌∷◌}
use mathlib.Core.Logic.{◌⊎◌, inl, inr}
use Prim.Native.Nat.{ℕ, zero, suc, ◌+◌, ◌≤◌}
use native.Mathlib.Omega.{arith}
use lib.Dec.{eqb}
use lib.ListN.{length}
use Rattle.model.specs.Basics.{◌&◌, ◌or◌, Res, refuse, done, bind, need, choose, pick, every}
use Rattle.model.specs.Values.{is_tuple, is_public, is_minted, is_value, arity, rest_of, first_of, binds, Fit, matches, binders, extend, word, Env}
use Rattle.model.specs.Table.{Table, Term, nil, par, box, new, out, inp, term, count}
use Rattle.model.specs.Checks.{Fault, check1, check2, check3, check4, check5, over_all, first_bad, found, fault}
use Rattle.model.specs.Wrapper.{Route, has_side, is_wrapper, all_sides, shelves}
use Rattle.model.specs.Side.{State, Core, Box, Particle, output, input, Tag, within_limits, limits, side, put_side, has_taken}
use Rattle.model.specs.Unfolding.{defined, tag_of}
use Rattle.model.specs.Load.{Composition, wrapper_of, table, Setting, setting, start, Loaded, refused, ok, side_fault, lack_fault, load_sides, load}
use Rattle.model.specs.WellFormed.{env_at, shelf_of, ready}
use Rattle.model.specs.Step.{Step, Moved, refusal, answer_to, after_step, answer_of, side_after, short, known, is_down, is_arrived, is_leaving, is_to_parent, is_to_child, tags_fit, enter, go_down, up_from}
use Rattle.model.specs.Step.{up_particle, up, descend_particle, descend, meet_term, meet_particles, meet, pass, leave, takes, route_to, inner, local, settled, step}
use Rattle.model.specs.Agreement.{IsLabelled}
use Rattle.model.specs.Runs.{Refusals, RefusedWhole}
use Rattle.model.proofs.Basics.Sides.{put_self}

-- LOAD: 1 TO 7

abbrev Numbered : Res Fault → Type 0
Numbered (refuse n) = Unit {0}
Numbered (done f) = (1 ≤ f.number) × (f.number ≤ 7)

found_numbered : (r : Res ℕ) (k : ℕ) → 1 ≤ k → k ≤ 7 → (q : Res Fault) → Numbered q → Numbered (found r k q)
unfolding found
found_numbered (refuse e) k l u q h = h
found_numbered (done n) k l u q h = (l, u)

choose_numbered : (t : Bool) (a c : Res Fault) → Numbered a → Numbered c → Numbered (choose t a c)
unfolding choose
choose_numbered true a c p q = p
choose_numbered false a c p q = q

fault_numbered : (t : Table) → Numbered (fault t)
unfolding fault
fault_numbered t = choose_numbered (check1 t) _ _
    (found_numbered (first_bad (check2 t) (count t) 0) 2 (omega arith) (omega arith) _
    (found_numbered (first_bad (check3 t) (count t) 0) 3 (omega arith) (omega arith) _
    (found_numbered (first_bad (check4 t) (count t) 0) 4 (omega arith) (omega arith) _
    (found_numbered (first_bad (check5 t) (count t) 0) 5 (omega arith) (omega arith) _
    (found_numbered (over_all t) 6 (omega arith) (omega arith) _ tt)))))
    (omega arith, omega arith)

side_numbered : (n : ℕ) (t : Table) → Numbered (side_fault n t)
unfolding side_fault
side_numbered n t = go (fault t) (fault_numbered t) (within_limits (start n t))
  where
    go : (r : Res Fault) → Numbered r → (c : Bool) → Numbered (elim r [ done f ↦ done f | refuse e ↦ elim c [ true ↦ refuse 0 | false ↦ done (record { number = 7; node = 0 }) ] ])
    go (done f) h c = h
    go (refuse e) h true = tt
    go (refuse e) h false = (omega arith, omega arith)

lack_numbered : (t : Table) → Numbered (lack_fault t)
unfolding lack_fault
lack_numbered t = choose_numbered (eqb (length t.nodes) 0 & eqb (length t.pool) 0) _ _ tt (omega arith, omega arith)

abbrev Bounded : Loaded → Type 0
Bounded (refused r) = (1 ≤ r.number) × (r.number ≤ 7)
Bounded (ok s) = Unit {0}

sides_bounded : (b : Composition) (ns : List ℕ) (k : Loaded) → Bounded k → Bounded (load_sides b ns k)
unfolding load_sides
sides_bounded b [] k h = h
sides_bounded b (n ∷ ns) k h = go (choose (has_side (wrapper_of b) n) (side_fault n (table b n)) (lack_fault (table b n)))
    (choose_numbered (has_side (wrapper_of b) n) _ _ (side_numbered n (table b n)) (lack_numbered (table b n))) (sides_bounded b ns k h)
  where
    go : (r : Res Fault) → Numbered r → Bounded (load_sides b ns k) → Bounded (elim r [ done f ↦ refused (record { number = f.number; side = n; node = f.node }) | refuse e ↦ load_sides b ns k ])
    go (done f) q ih = q
    go (refuse e) q ih = ih

load_bounded : (b : Composition) → Bounded (load b)
unfolding load
load_bounded b = go (is_wrapper b.wrapper) _ (sides_bounded b all_sides _ tt)
  where
    go : (t : Bool) (k : Loaded) → Bounded k → Bounded (elim t [ true ↦ k | false ↦ refused (record { number = 1; side = 0; node = 0 }) ])
    go true k h = h
    go false k h = (omega arith, omega arith)

-- STEPS: 10 TO 17

abbrev Within : {A : Type 0} → Res A → Type 0
Within (refuse n) = (10 ≤ n) × (n ≤ 17)
Within (done a) = Unit {0}

need_within : {A : Type 0} (t : Bool) (n : ℕ) (r : Res A) → 10 ≤ n → n ≤ 17 → Within r → Within (need t n r)
unfolding need
need_within true n r l u h = h
need_within false n r l u h = (l, u)

choose_within : {A : Type 0} (t : Bool) (a c : Res A) → Within a → Within c → Within (choose t a c)
unfolding choose
choose_within true a c p q = p
choose_within false a c p q = q

bind_within : {A B : Type 0} (r : Res A) (f : A → Res B) → Within r → ((a : A) → Within (f a)) → Within (bind r f)
unfolding bind
bind_within (refuse n) f h g = h
bind_within (done a) f h g = g a

pick_within : {A B : Type 0} (l : List A) (i : ℕ) (f : A → Res B) → ((x : A) → Within (f x)) → Within (pick l i f)
unfolding pick
pick_within [] i f h = (omega arith, omega arith)
pick_within (x ∷ l) zero f h = h x
pick_within (x ∷ l) (suc i) f h = pick_within l i f h

match_within : (p : List ℕ) (n : ℕ) (v : List ℕ) → Within (matches p n v)
unfolding matches
match_within [] zero v = tt
match_within [] (suc n) v = (omega arith, omega arith)
match_within (p ∷ ps) zero v = tt
match_within (p ∷ ps) (suc n) v = go (is_tuple p) v (is_public p) (match_within ps)
  where
    word-within : (c : Bool) (ws : List ℕ) → ((n : ℕ) (v : List ℕ) → Within (matches ps n v)) → Within {A = Fit} (elim c as (λ c. Res Fit) [ true ↦ matches ps (arity p + n) ws | false ↦ refuse 14 ])
    word-within true ws ih = ih (arity p + n) ws
    word-within false ws ih = (omega arith, omega arith)

    go : (t : Bool) (v : List ℕ) (c : Bool) → ((n : ℕ) (v : List ℕ) → Within (matches ps n v)) → Within {A = Fit} (elim t as (λ t. Res Fit) [
      | true ↦ elim v as (λ v. Res Fit) [ [] ↦ refuse 14 | w ∷ ws ↦ elim (eqb w p) as (λ c. Res Fit) [ true ↦ matches ps (arity p + n) ws | false ↦ refuse 14 ] ]
      | false ↦ elim c as (λ c. Res Fit) [ true ↦ bind (matches ps n (rest_of v)) (λ m. done (binds (first_of v) m)) | false ↦ matches ps n (rest_of v) ]
    ])
    go true [] c ih = (omega arith, omega arith)
    go true (w ∷ ws) c ih = word-within (eqb w p) ws ih
    go false v true ih = bind_within (matches ps n (rest_of v)) _ (ih n (rest_of v)) (λ m. tt)
    go false v false ih = ih n (rest_of v)

enter_within : (cs : List ℕ) (kn : ℕ → Bool) (s : Core) (ws : List ℕ) → Within (enter cs kn s ws)
unfolding enter
enter_within cs kn s ws = need_within (is_value ws) 11 _ (omega arith) (omega arith) (need_within (every (λ w. not (is_minted w) or kn w) ws) 12 _ (omega arith) (omega arith) tt)

down_within : (s : Core) (i : ℕ) → Within (go_down s i)
unfolding go_down
down_within s i = pick_within s.lobby i _ (λ m. need_within (is_down m.status) 13 _ (omega arith) (omega arith) tt)

from_within : (c : Setting) (s : Core) (i b ch : ℕ) (v : List ℕ) → Within (up_from c s i b ch v)
unfolding up_from
from_within c s i zero ch v = choose_within (shelves c.wrapper c.side & eqb ch 2) _ _ tt tt
from_within c s i (suc b) ch v = pick_within s.contents.boxes (suc b) _ (λ x. tt)

up_within : (c : Setting) (s : Core) (i : ℕ) → Within (up c s i)
unfolding up up_particle
up_within c s i = pick_within s.contents.particles i (up_particle c s i) go
  where
    go : (p : Particle) → Within (up_particle c s i p)
    go (output b ch g v) = need_within (is_to_parent g) 13 _ (omega arith) (omega arith) (from_within c s i b ch v)
    go (input b n vs) = (omega arith, omega arith)

descend_within : (s : Core) (i j : ℕ) → Within (descend s i j)
unfolding descend descend_particle
descend_within s i j = pick_within s.contents.particles i _ (λ p. pick_within s.contents.boxes j _ (λ x. go x p))
  where
    go : (x : Box) (p : Particle) → Within (descend_particle s i j x p)
    go x (output b ch g v) = need_within (not (eqb j 0) & (eqb x.parent b & is_to_child g x.name)) 13 _ (omega arith) (omega arith) tt
    go x (input b n vs) = (omega arith, omega arith)

term_within : (c : Setting) (s : Core) (i j b ch : ℕ) (g : Tag) (v : List ℕ) (b' : ℕ) (ρ : Env) (a : Term) → Within (meet_term c s i j b ch g v b' ρ a)
unfolding meet_term
term_within c s i j b ch g v b' ρ (nil n) = (omega arith, omega arith)
term_within c s i j b ch g v b' ρ (par n l r) = (omega arith, omega arith)
term_within c s i j b ch g v b' ρ (box n x a) = (omega arith, omega arith)
term_within c s i j b ch g v b' ρ (new n x a) = (omega arith, omega arith)
term_within c s i j b ch g v b' ρ (out n c' g' v') = (omega arith, omega arith)
term_within c s i j b ch g v b' ρ (inp n again c' g' p a) = need_within (eqb b b' & (eqb ch (word ρ c') & tags_fit g (tag_of ρ g'))) 13 _ (omega arith) (omega arith)
    (bind_within (matches p 1 v) _ (match_within p 1 v) (λ m. need_within (defined a (extend ρ (binders p) m.bound)) 15 _ (omega arith) (omega arith) tt))

meet_within : (c : Setting) (s : Core) (i j : ℕ) → Within (meet c s i j)
unfolding meet meet_particles
meet_within c s i j = pick_within s.contents.particles i _ (λ p. pick_within s.contents.particles j _ (λ q. go p q))
  where
    go : (p q : Particle) → Within (meet_particles c s i j p q)
    go (output b ch g v) (input b' n vs) = term_within c s i j b ch g v b' (env_at c.table n vs) (term c.table n)
    go (output b ch g v) (output b' ch' g' v') = (omega arith, omega arith)
    go (input b n vs) q = (omega arith, omega arith)

pass_within : (cs : List ℕ) (s : Core) (i : ℕ) → Within (pass cs s i)
unfolding pass
pass_within cs s i = pick_within s.lobby i _ (λ m. need_within (is_arrived m.status & eqb m.chan 1) 13 _ (omega arith) (omega arith) tt)

leave_within : (s : Core) (i : ℕ) → Within (leave s i)
unfolding leave
leave_within s i = pick_within s.lobby i _ (λ m. need_within (is_leaving m.status) 13 _ (omega arith) (omega arith) tt)

take_within : (m : ℕ) (sh : List (List ℕ)) (s : Core) (i : ℕ) → Within (takes m sh s i)
unfolding takes
take_within m sh s i = pick_within sh i _ (λ v. need_within (not (has_taken s m i)) 13 _ (omega arith) (omega arith) tt)

route_within : (rs : List Route) (n j : ℕ) → Within (route_to rs n j)
unfolding route_to
route_within [] n j = (omega arith, omega arith)
route_within (r ∷ rs) n j = choose_within (eqb r.receiver n & eqb r.j j) _ _ tt (route_within rs n j)

inner_within : (c : Setting) (s : Core) (x : Step) → Within (inner c s x)
unfolding inner
inner_within c s x = need_within (eqb (length x.words) 0) 10 _ (omega arith) (omega arith)
    (choose_within (eqb x.kind 4) _ _ (descend_within s x.i x.j)
    (choose_within (eqb x.kind 5) _ _ (meet_within c s x.i x.j)
    (need_within (eqb x.j 0) 10 _ (omega arith) (omega arith)
    (choose_within (eqb x.kind 2) _ _ (down_within s x.i)
    (choose_within (eqb x.kind 3) _ _ (up_within c s x.i)
    (choose_within (eqb x.kind 6) _ _ (pass_within c.wrapper.copies s x.i)
    (choose_within (eqb x.kind 7) _ _ (leave_within s x.i) (omega arith, omega arith))))))))

local_within : (c : Setting) (kn : ℕ → Bool) (sh : ℕ → List (List ℕ)) (s : Core) (x : Step) → Within (local c kn sh s x)
unfolding local
local_within c kn sh s x = choose_within (eqb x.kind 1) _ _ (need_within (eqb x.i 0 & eqb x.j 0) 10 _ (omega arith) (omega arith) (enter_within c.wrapper.copies kn s x.words))
    (choose_within (eqb x.kind 8) _ _
    (need_within (eqb (length x.words) 0) 10 _ (omega arith) (omega arith)
    (bind_within (route_to c.wrapper.routes c.side x.j) _ (route_within c.wrapper.routes c.side x.j) (λ r. take_within r.source (sh r.source) s x.i)))
    (inner_within c s x))

settled_within : (r : Res Moved) → Within r → Within (settled r)
unfolding settled
settled_within r h = bind_within r _ h (λ m. need_within (every short m.core.contents.particles) 16 _ (omega arith) (omega arith) (need_within (limits m.core) 17 _ (omega arith) (omega arith) tt))

-- a refusal's numbers, and what it changes
pub refusal_number : {n k m j : ℕ} → refusal n k ≡ refusal m j → n ≡ m
refusal_number e = cc

pub refusal_side : {n k m j : ℕ} → refusal n k ≡ refusal m j → k ≡ j
refusal_side e = cc

step_refusals : (b : Composition) (s : State) (x : Step) (n k : ℕ) → (step b s x).answer ≡ refusal n k → (10 ≤ n) × (n ≤ 17) × (k ≡ x.side) × ((step b s x).after ≡ s)
unfolding step
step_refusals b s x n k q = go (ready b s & has_side (wrapper_of b) x.side) refl
  where
    by_number : (m j : ℕ) → (10 ≤ m) × (m ≤ 17) → refusal m j ≡ refusal n k → j ≡ x.side → (t : State) → t ≡ s → (10 ≤ n) × (n ≤ 17) × (k ≡ x.side) × (t ≡ s)
    by_number m j w h sd t same =
        let e : m ≡ n = refusal_number h in
        (subst (λ (z : ℕ). 10 ≤ z) e w.0, subst (λ (z : ℕ). z ≤ 17) e w.1, sym (refusal_side h) ∙ sd, same)

    by_result : (r : Res Moved) → Within r → answer_of x.side r ≡ refusal n k → (10 ≤ n) × (n ≤ 17) × (k ≡ x.side) × (put_side s x.side (side_after (side s x.side) r) ≡ s)
    by_result (refuse m) w h = by_number m x.side w h refl _ (put_self s x.side)
    by_result (done m) w h = absurd (subst IsLabelled h tt)

    result : Res Moved
    result = settled (local (setting b x.side) (known s) (shelf_of s) (side s x.side).core x)

    go : (t : Bool) → ready b s & has_side (wrapper_of b) x.side ≡ t → (10 ≤ n) × (n ≤ 17) × (k ≡ x.side) × ((step b s x).after ≡ s)
    go false p = rw (p, step) (by_number 10 x.side (omega arith, omega arith) (rw (p, step) at q) refl s refl)
    go true p = rw (p, step)
        (by_result result (settled_within (local (setting b x.side) (known s) (shelf_of s) (side s x.side).core x) (local_within (setting b x.side) (known s) (shelf_of s) (side s x.side).core x)) (rw (p, step) at q))

pub refusals : Refusals
unfolding Refusals
refusals = (λ b r q. subst Bounded q (load_bounded b), step_refusals)

-- A STEP OF WHAT IS NOT READY, OR WITH A SIDE THAT THERE IS NOT

either_fails : (r h : Bool) → (r ≡ false) ⊎ (h ≡ false) → r & h ≡ false
unfolding ◌&◌
either_fails r h (inl e) = rw e
either_fails true h (inr e) = e
either_fails false h (inr e) = refl

step_turned_away : (b : Composition) (s : State) (x : Step) → ready b s & has_side (wrapper_of b) x.side ≡ false → ((step b s x).answer ≡ refusal 10 x.side) × ((step b s x).after ≡ s)
unfolding step
step_turned_away b s x e = rw (e, step) (refl, refl)

pub refused_whole : RefusedWhole
unfolding RefusedWhole answer_to after_step
refused_whole = (λ b s x e. step_turned_away b s x (either_fails _ _ e), λ b x. (refl, refl))
