-- Walls: an invariant on processes that congruence and transitions keep. Names have roles, each with a level: only guests' names are in
-- a wrapper's boxes and messages, and where the level is low, none that is high.
use mathlib.Core.Path.{◌≡◌, refl, sym, ◌∙◌, ap, fun_ext, subst, transport}
use mathlib.Core.Logic.{◌⊎◌, inl, inr, ⊎_elim, ◌↔◌}
use mathlib.Core.List.{List, [], ◌∷◌, ◌++◌}
use mathlib.Core.Option.{Option, none, some}
use mathlib.Core.Bool.{Bool, true, false, cond}
use Prim.Native.Nat.{ℕ}
use lib.Dec.{eqb, T, eqb→eq, eqb_refl}
use Rattle.calculus.specs.Syntax.{Val, nm, Pat, Vars, var, Scope, Name, ITag, within, parent, child, Tag, plain, received_parent, received_child, Proc, nil, par, box, new}
use Rattle.calculus.specs.Syntax.{out, inp, comp, AllN, AllV, AllT, AllI, outer, sub, Defined, IsName, the_name, under_v, match, closed, opened, the_bound, name_or, ren, vren, iren, tren}
use Rattle.calculus.specs.Syntax.{under}
use Rattle.calculus.specs.Congruence.{Cong, swapped, par_nil, par_comm, par_assoc, new_new, new_par, new_box, rfl, symm, trans, in_par, in_box, in_new, in_inp}
use Rattle.calculus.specs.Transitions.{Label, tau, send, recv, Participants, In, mem, Fn⊆, Out∉, names, tnames, lnames, beyond, restrict, mv, movable, inst, InstOk, Step, Out, In1, Repl, CommL}
use Rattle.calculus.specs.Transitions.{CommR, ParL, ParR, Box1, Box2, Box3, Res1, Res2, Struct}
use Rattle.calculus.specs.Marks.{Seq, ended, first, grown_by}
use Rattle.calculus.specs.Purity.{EachLabel}
use Rattle.calculus.proofs.Renaming.{AllN-map, AllV-map, AllT-map, AllV-ren, AllV-map2, AllN-map2}
use Rattle.calculus.proofs.Extrusion.{bound_fresh}
use Rattle.calculus.proofs.Parallels.{Each, each-names, beyond_out, apart, T_true}
use Rattle.calculus.proofs.FreeNames.{AllV-unren, AllN-unren, cong_fn, AllV-sub, AllN-sub, the_name_in, Parts, match-in, eqb-true, eqb_sym, or_cases, or_left, or_right, mem_left, mem_right}
use Rattle.calculus.proofs.FreeNames.{no_T, or_false_r, AllV-names, step_fn, step_source}
use Rattle.calculus.proofs.KnownNames.{or_false_l, out_right, each_mem, in_more, AllT-names, send_names, strengthen}

-- ROLES

-- levels, as of an information flow
pub data Level : Type 0 where
  low high : Level

-- what is of level d may go where the level is c: anywhere, but from high to low
abbrev pub flows : (d c : Level) → Bool
flows low c = true
flows high low = false
flows high high = true

flows_on : (a b c : Level) → T (flows a b) → T (flows b c) → T (flows a c)
flows_on low b c h k = tt
flows_on high low c h k = absurd h
flows_on high high c h k = k

-- a wrapper's own box; its channels from and to the environment; any other name
pub data Role : Type 0 where
  own inlet outlet other : Level → Role

-- a name that a program may have where the level is c
abbrev pub is_guest : Level → Role → Bool
is_guest c (own d) = false
is_guest c (inlet d) = true
is_guest c (outlet d) = true
is_guest c (other d) = flows d c

abbrev pub Guest : Level → Role → Type 0
Guest c ρ = T (is_guest c ρ)

guest_on : (d c : Level) (ρ : Role) → T (flows d c) → Guest d ρ → Guest c ρ
guest_on d c (own a) f h = absurd h
guest_on d c (inlet a) f h = tt
guest_on d c (outlet a) f h = tt
guest_on d c (other a) f h = flows_on a d c h f

-- a binder's names and those outside
abbrev pub ext : {B N : Type 0} → Role → (N → Role) → B ⊎ N → Role
ext a r (inl b) = a
ext a r (inr n) = r n

-- what is bound is a wrapper's own or any other name, which is low
abbrev pub bound : Option Level → Role
bound (some c) = own c
bound none = other low

-- outputs to the environment are on an outlet; inputs from it on an inlet; all others concern a box of the wrapper. The level is that of the
-- outlet, the inlet or the box
abbrev pub OutOk : {N : Type 0} → Level → (N → Role) → N → Tag N → Type 0
OutOk c r x (plain within) = ⊥
OutOk c r x (plain parent) = (r x ≡ outlet c) × Guest c (r x)
OutOk c r x (plain (child n)) = (r n ≡ own c) × Guest c (r x)
OutOk c r x received_parent = ⊥
OutOk c r x (received_child n) = (r n ≡ own c) × Guest c (r x)

abbrev pub InOk : {N : Type 0} → Level → (N → Role) → N → ITag N → Type 0
InOk c r x within = ⊥
InOk c r x parent = r x ≡ inlet c
InOk c r x (child n) = r n ≡ own c

-- THE INVARIANT: boxes are the wrapper's own, and what is in them, and in every value, has guests' names only, at the level of the box or the output; what an
-- input binds is of the level of the input
unfoldable pub Walled : {U : Type 0} {s : Scope} → Proc U s → (Name s → Role) → Type 0
Walled nil r = Unit {0}
Walled (par P Q) r = Walled P r × Walled Q r
Walled (box t n P) r = (c : Level) × (r n ≡ own c) × AllN P (λ x. Guest c (r x))
Walled (new P) r = (h : Option Level) × Walled P (ext (bound h) r)
Walled (out t x o v) r = (c : Level) × OutOk c r x o × AllV v (λ x. Guest c (r x))
Walled (inp m t x i p P) r = (c : Level) × InOk c r x i × Walled P (ext (other c) r)

-- RENAMING
out_ren : {N M : Type 0} (c : Level) (x : N) (o : Tag N) (f : N → M) (r : M → Role) → OutOk c (λ y. r (f y)) x o ≡ OutOk c r (f x) (tren o f)
out_ren c x (plain within) f r = refl
out_ren c x (plain parent) f r = refl
out_ren c x (plain (child n)) f r = refl
out_ren c x received_parent f r = refl
out_ren c x (received_child n) f r = refl

in_ren : {N M : Type 0} (c : Level) (x : N) (i : ITag N) (f : N → M) (r : M → Role) → InOk c (λ y. r (f y)) x i ≡ InOk c r (f x) (iren i f)
in_ren c x within f r = refl
in_ren c x parent f r = refl
in_ren c x (child n) f r = refl

ext_under : {B N M : Type 0} (a : Role) (f : N → M) (r : M → Role) → ◌≡◌ {A = B ⊎ N → Role} (ext a (λ y. r (f y))) (λ y. ext a r (under f y))
ext_under a f r = fun_ext (elim [ inl b ↦ refl | inr n ↦ refl ])

walled_ren : {U : Type 0} {s : Scope} (q : Scope) (P : Proc U s) (f : Name s → Name q) (r : Name q → Role) → Walled P (λ x. r (f x)) ≡ Walled (ren {r = q} P f) r
unfolding ren Walled
walled_ren q nil f r = refl
walled_ren q (par P Q) f r = λ k. walled_ren q P f r k × walled_ren q Q f r k
walled_ren q (box t n P) f r = λ k. (c : Level) × (r (f n) ≡ own c) × AllN-unren q P f (λ x. Guest c (r x)) k
walled_ren q (new P) f r = λ k. (h : Option Level) × (ap (λ F. Walled P F) (ext_under (bound h) f r) ∙ walled_ren (var ∷ q) P (under f) (ext (bound h) r)) k
walled_ren q (out t x o v) f r = λ k. (c : Level) × out_ren c x o f r k × AllV-unren v f (λ x. Guest c (r x)) k
walled_ren q (inp m t x i p P) f r = λ k. (c : Level) × in_ren c x i f r k × (ap (λ F. Walled P F) (ext_under (other c) f r) ∙ walled_ren (p ∷ q) P (under f) (ext (other c) r)) k

-- CONGRUENCE
ext_swapped : {B C N : Type 0} (a c : Role) (r : N → Role) → ◌≡◌ {A = B ⊎ (C ⊎ N) → Role} (ext a (ext c r)) (λ x. ext c (ext a r) (swapped x))
ext_swapped a c r = fun_ext (elim [ inl b ↦ refl | inr (inl d) ↦ refl | inr (inr n) ↦ refl ])

guest_outer : {B N : Type 0} (c : Level) (a : Role) (r : N → Role) (x : B ⊎ N) → Guest c (ext a r x) → outer (λ y. Guest c (r y)) x
guest_outer c a r (inl b) h = tt
guest_outer c a r (inr n) h = h

outer_guest : {B N : Type 0} (c : Level) (r : N → Role) (x : B ⊎ N) → outer (λ y. Guest c (r y)) x → Guest c (ext (other low) r x)
outer_guest c r (inl b) h = tt
outer_guest c r (inr n) h = h

cong_walled : {U : Type 0} {s : Scope} {P Q : Proc U s} → Cong s P Q → (r : Name s → Role) → Walled P r ↔ Walled Q r
unfolding Walled AllN
cong_walled par_nil r = (λ h. h.0, λ h. (h, tt))
cong_walled par_comm r = (λ h. (h.1, h.0), λ h. (h.1, h.0))
cong_walled par_assoc r = (λ h. (h.0.0, (h.0.1, h.1)), λ h. ((h.0, h.1.0), h.1.1))
cong_walled {s} (new_new {P = P}) r = (λ h. (h.1.0, (h.0, transport (e h.1.0 h.0) h.1.1)), λ h. (h.1.0, (h.0, transport (sym (e h.0 h.1.0)) h.1.1)))
  where
    e : (a c : Option Level) → Walled P (ext (bound a) (ext (bound c) r)) ≡ Walled (ren {r = var ∷ var ∷ s} P swapped) (ext (bound c) (ext (bound a) r))
    e a c = ap (λ F. Walled P F) (ext_swapped (bound a) (bound c) r) ∙ walled_ren (var ∷ var ∷ s) P swapped (ext (bound c) (ext (bound a) r))
cong_walled {s} (new_par {P = P} {Q = Q}) r = (λ h. (transport (sym (e h.0)) h.1.0, (h.0, h.1.1)), λ h. (h.1.0, (transport (e h.1.0) h.0, h.1.1)))
  where
    e : (a : Option Level) → Walled P r ≡ Walled (ren {r = var ∷ s} P inr) (ext (bound a) r)
    e a = walled_ren (var ∷ s) P inr (ext (bound a) r)
cong_walled (new_box {P = P}) r = (
  λ h. (h.1.0, h.1.1, AllN-map P (guest_outer h.1.0 (bound h.0) r) h.1.2),
  λ h. (none, (h.0, h.1, AllN-map P (outer_guest h.0 r) h.2)),
)
cong_walled rfl r = (λ h. h, λ h. h)
cong_walled (symm d) r = let q = cong_walled d r in (q.1, q.0)
cong_walled (trans d e) r =
    let q = cong_walled d r in
    let k = cong_walled e r in
    (λ h. k.0 (q.0 h), λ h. q.1 (k.1 h))
cong_walled (in_par d e) r =
    let q = cong_walled d r in
    let k = cong_walled e r in
    (λ h. (q.0 h.0, k.0 h.1), λ h. (q.1 h.0, k.1 h.1))
cong_walled (in_box d) r = (λ h. (h.0, h.1, (cong_fn d (λ x. Guest h.0 (r x))).0 h.2), λ h. (h.0, h.1, (cong_fn d (λ x. Guest h.0 (r x))).1 h.2))
cong_walled (in_new d) r = (λ h. (h.0, (cong_walled d (ext (bound h.0) r)).0 h.1), λ h. (h.0, (cong_walled d (ext (bound h.0) r)).1 h.1))
cong_walled (in_inp d) r = (λ h. (h.0, h.1, (cong_walled d (ext (other h.0) r)).0 h.2), λ h. (h.0, h.1, (cong_walled d (ext (other h.0) r)).1 h.2))

-- ROLES: those of the free names decide
out_agree : {N : Type 0} (c : Level) (r r' : N → Role) (x : N) (o : Tag N) → r x ≡ r' x → AllT o (λ n. r n ≡ r' n) → OutOk c r x o → OutOk c r' x o
out_agree c r r' x (plain within) e f h = h
out_agree c r r' x (plain parent) e f h = (sym e ∙ h.0, subst (Guest c) e h.1)
out_agree c r r' x (plain (child n)) e f h = (sym f ∙ h.0, subst (Guest c) e h.1)
out_agree c r r' x received_parent e f h = h
out_agree c r r' x (received_child n) e f h = (sym f ∙ h.0, subst (Guest c) e h.1)

in_agree : {N : Type 0} (c : Level) (r r' : N → Role) (x : N) (i : ITag N) → r x ≡ r' x → AllI i (λ n. r n ≡ r' n) → InOk c r x i → InOk c r' x i
in_agree c r r' x within e f h = h
in_agree c r r' x parent e f h = sym e ∙ h
in_agree c r r' x (child n) e f h = sym f ∙ h

ext_agree : {B N : Type 0} (a : Role) (r r' : N → Role) (y : B ⊎ N) → outer (λ x. r x ≡ r' x) y → ext a r y ≡ ext a r' y
ext_agree a r r' (inl b) e = refl
ext_agree a r r' (inr n) e = e

pub walled_agree : {U : Type 0} {s : Scope} (P : Proc U s) (r r' : Name s → Role) → AllN P (λ x. r x ≡ r' x) → Walled P r → Walled P r'
unfolding Walled AllN
walled_agree nil r r' e h = tt
walled_agree (par P Q) r r' e h = (walled_agree P r r' e.0 h.0, walled_agree Q r r' e.1 h.1)
walled_agree (box t n P) r r' e h = (h.0, sym e.0 ∙ h.1, AllN-map2 P (λ x q. subst (Guest h.0) q) e.1 h.2)
walled_agree (new P) r r' e h = let a = bound h.0 in (h.0, walled_agree P (ext a r) (ext a r') (AllN-map P (ext_agree a r r') e) h.1)
walled_agree (out t x o v) r r' e h = (h.0, out_agree h.0 r r' x o e.0 e.1 h.1, AllV-map2 v (λ x q. subst (Guest h.0) q) e.2 h.2)
walled_agree (inp m t x i p P) r r' e h =
    let a = other h.0 in
    (h.0, in_agree h.0 r r' x i e.0 e.1 h.1, walled_agree P (ext a r) (ext a r') (AllN-map P (ext_agree a r r') e.2) h.2)

-- SUBSTITUTION: a name by a name of its role, or any other name by a value with guests' names
data Fits {N : Type 0} (r : N → Role) : Role → Val N → Type 0 where
  same : (z : N) → Fits r (r z) (nm z)
  guest : {c : Level} {v : Val N} → AllV v (λ x. Guest c (r x)) → Fits r (other c) v

role_of : (q : Scope) {ρ : Role} {v : Val (Name q)} (r : Name q → Role) (a : Role) → ((c : Level) → other c ≡ a → ⊥) → Fits r ρ v → ρ ≡ a → r (the_name q v) ≡ a
role_of q r a n (same z) h = h
role_of q r a n (guest {c = c} k) h = absurd (n c h)

guest_of : {N : Type 0} (c : Level) (r : N → Role) {ρ : Role} {v : Val N} → Fits r ρ v → Guest c ρ → AllV v (λ x. Guest c (r x))
guest_of c r (same z) h = h
guest_of c r (guest {c = d} {v = v} k) h = AllV-map v (λ x. guest_on d c (r x) h) k

fits_inr : {B N : Type 0} (a : Role) (r : N → Role) {ρ : Role} {v : Val N} → Fits r ρ v → Fits {N = B ⊎ N} (ext a r) ρ (vren v inr)
fits_inr a r (same z) = same (inr z)
fits_inr a r (guest {c = c} {v = v} k) = guest (AllV-ren v inr (λ x. Guest c (ext a r x)) k)

fits_under : {B N M : Type 0} (a : Role) (r : N → Role) (r' : M → Role) (f : N → Val M) → ((y : N) → Fits r' (r y) (f y)) → (y : B ⊎ N) → Fits {N = B ⊎ M} (ext a r') (ext a r y) (under_v f y)
fits_under a r r' f h (inl b) = same (inl b)
fits_under a r r' f h (inr n) = fits_inr a r' (h n)

module _ {N : Type 0} (q : Scope) (c : Level) (r : N → Role) (r' : Name q → Role) (f : N → Val (Name q)) (fit : (y : N) → Fits r' (r y) (f y)) where
  own_sub : (n : N) → r n ≡ own c → r' (the_name q (f n)) ≡ own c
  own_sub n h = role_of q r' (own c) (λ d e. no_T true (cc) tt) (fit n) h

  guest_sub : (n : N) → IsName (f n) → Guest c (r n) → Guest c (r' (the_name q (f n)))
  guest_sub n k h = the_name_in q (f n) (λ x. Guest c (r' x)) k (guest_of c r' (fit n) h)

  out_sub : (x : N) (o : Tag N) → IsName (f x) → OutOk c r x o → OutOk c r' (the_name q (f x)) (tren o (λ n. the_name q (f n)))
  out_sub x (plain within) k h = absurd h
  out_sub x (plain parent) k h = (role_of q r' (outlet c) (λ d e. no_T true (cc) tt) (fit x) h.0, guest_sub x k h.1)
  out_sub x (plain (child n)) k h = (own_sub n h.0, guest_sub x k h.1)
  out_sub x received_parent k h = absurd h
  out_sub x (received_child n) k h = (own_sub n h.0, guest_sub x k h.1)

  in_sub : (x : N) (i : ITag N) → InOk c r x i → InOk c r' (the_name q (f x)) (iren i (λ n. the_name q (f n)))
  in_sub x within h = absurd h
  in_sub x parent h = role_of q r' (inlet c) (λ d e. no_T true (cc) tt) (fit x) h
  in_sub x (child n) h = own_sub n h

walled_sub : {U : Type 0} {s : Scope} (q : Scope) (P : Proc U s) (f : Name s → Val (Name q)) (r : Name s → Role) (r' : Name q → Role) → ((y : Name s) → Fits r' (r y) (f y)) → Defined P f → Walled P r → Walled (sub {r = q} P f) r'
unfolding sub Defined Walled
walled_sub q nil f r r' fit k h = tt
walled_sub q (par P Q) f r r' fit k h = (walled_sub q P f r r' fit k.0 h.0, walled_sub q Q f r r' fit k.1 h.1)
walled_sub q (box t n P) f r r' fit k h =
    (h.0, own_sub q h.0 r r' f fit n h.1, AllN-sub q P f (λ x. Guest h.0 (r' x)) k.1 (AllN-map P (λ y. guest_of h.0 r' (fit y)) h.2))
walled_sub q (new P) f r r' fit k h = let a = bound h.0 in (h.0, walled_sub (var ∷ q) P (under_v f) (ext a r) (ext a r') (fits_under a r r' f fit) k h.1)
walled_sub q (out t x o v) f r r' fit k h =
    (h.0, out_sub q h.0 r r' f fit x o k.0 h.1, AllV-sub v f (λ x. Guest h.0 (r' x)) (AllV-map v (λ y. guest_of h.0 r' (fit y)) h.2))
walled_sub q (inp m t x i p P) f r r' fit k h =
    let a = other h.0 in
    (h.0, in_sub q h.0 r r' f fit x i h.1, walled_sub (p ∷ q) P (under_v f) (ext a r) (ext a r') (fits_under a r r' f fit) k.2 h.2)

walled_inst : {U : Type 0} (p : Pat) (P : Proc U (p ∷ [])) (v : Val ℕ) (σ : Vars p → Val ℕ) (c : Level) (r : ℕ → Role) → match p v ≡ some σ → InstOk P σ → AllV v (λ x. Guest c (r x)) → Walled P (ext (other c) r) → Walled (inst P σ) r
walled_inst p P v σ c r e k hv h = walled_sub [] P (⊎_elim σ nm) (ext (other c) r) r (elim [ inl b ↦ guest (parts b) | inr n ↦ same n ]) k h
  where
    parts : (b : Vars p) → AllV (σ b) (λ x. Guest c (r x))
    parts = subst (Parts (λ x. Guest c (r x))) e (match-in (λ x. Guest c (r x)) p v hv)

-- BINDERS

-- names that are not known are other names, and low
abbrev pub Guard : List ℕ → (ℕ → Role) → Type 0
Guard A r = (z : ℕ) → Out∉ A z → r z ≡ other low

-- x with the role a
abbrev pub given : ℕ → Role → (ℕ → Role) → ℕ → Role
given x a r y = ext a r (the_bound x y)

pub given_off : (x : ℕ) (a : Role) (r : ℕ → Role) (y : ℕ) → eqb x y ≡ false → given x a r y ≡ r y
given_off x a r y e = ap (λ z. ext a r z) (bound_fresh x y e)

pub given_on : (x : ℕ) (a : Role) (r : ℕ → Role) (y : ℕ) → eqb x y ≡ true → given x a r y ≡ a
given_on x a r y e = ap (λ (b : Bool). ext a r (cond b (inl tt) (inr y))) e

given_other : (x : ℕ) (r : ℕ → Role) → r x ≡ other low → given x (other low) r ≡ r
given_other x r h = fun_ext (λ y. go y (eqb x y) refl)
  where
    go : (y : ℕ) (b : Bool) → eqb x y ≡ b → given x (other low) r y ≡ r y
    go y true e = given_on x (other low) r y e ∙ sym h ∙ ap r (eqb-true e)
    go y false e = given_off x (other low) r y e

pub given_guard : (A : List ℕ) (x : ℕ) (a : Role) (r : ℕ → Role) → Guard A r → Guard (x ∷ A) (given x a r)
given_guard A x a r g z h = given_off x a r z (eqb_sym x z ∙ or_false_l (eqb z x) (mem z A) h) ∙ g z (or_false_r (eqb z x) (mem z A) h)

walled_new : {U : Type 0} (x : ℕ) (P : Proc U []) (r : ℕ → Role) → r x ≡ other low → Walled P r → Walled (new (closed x P)) r
unfolding Walled
walled_new x P r e h = (none, transport (walled_ren (var ∷ []) P (the_bound x) (ext (other low) r)) (subst (λ F. Walled P F) (sym (given_other x r e)) h))

walled_news : {U : Type 0} (L A : List ℕ) (P : Proc U []) (r : ℕ → Role) → Guard A r → Each (λ x. mem x A ≡ false) L → Walled P r → Walled (restrict L P) r
unfolding restrict
walled_news [] A P r g e h = h
walled_news (x ∷ L) A P r g e h = walled_new x (restrict L P) r (g x e.0) (walled_news L A P r g e.1 h)

-- a binder opened with a name that is not known
walled_opened : {U : Type 0} (A : List ℕ) (x : ℕ) (P : Proc U (var ∷ [])) (a : Role) (r : ℕ → Role) → Out∉ A x → Fn⊆ (new P) A → Walled P (ext a r) → Walled (opened P x) (given x a r)
unfolding AllN
walled_opened A x P a r hx f h =
    transport (walled_ren [] P (name_or x) (given x a r)) (walled_agree P (ext a r) (λ y. given x a r (name_or x y)) (AllN-map P role f) h)
  where
    role : (y : Unit {0} ⊎ ℕ) → outer (In A) y → ext a r y ≡ given x a r (name_or x y)
    role (inl b) k = sym (given_on x a r x (T_true (eqb x x) (eqb_refl x)))
    role (inr n) k = sym (given_off x a r n (apart A x n hx k))

-- LABELS
abbrev pub Guests : Level → (ℕ → Role) → Val ℕ → Type 0
Guests c r v = (z : ℕ) → T (mem z (names v)) → Guest c (r z)

guests_of : (c : Level) (r : ℕ → Role) (v : Val ℕ) → AllV v (λ x. Guest c (r x)) → Guests c r v
guests_of c r v h z k = each_mem (λ x. Guest c (r x)) (names v) z (each-names (λ x. Guest c (r x)) v h) k

of_guests : (c : Level) (r : ℕ → Role) (v : Val ℕ) → Guests c r v → AllV v (λ x. Guest c (r x))
of_guests c r v h = AllV-map v h (AllV-names v)

-- what a process says
abbrev pub HearOk : Level → (ℕ → Role) → ℕ → Tag ℕ → Type 0
HearOk c r x (plain i) = InOk c r x i
HearOk c r x received_parent = ⊥
HearOk c r x (received_child n) = r n ≡ own c

abbrev pub Speaks : (ℕ → Role) → Label → Type 0
Speaks r tau = Unit {0}
Speaks r (send x o v) = (c : Level) × OutOk c r x o × Guests c r v
Speaks r (recv x o v) = (c : Level) × HearOk c r x o

-- and what it is told: nothing above the level at which it listens
abbrev pub Told : (ℕ → Role) → Label → Type 0
Told r tau = Unit {0}
Told r (send x o v) = Unit {0}
Told r (recv x o v) = (c : Level) → HearOk c r x o → Guest c (r x) × Guests c r v

-- roles of the names of the label decide
module _ (r r' : ℕ → Role) (x : ℕ) (o : Tag ℕ) (v : Val ℕ) (e : (z : ℕ) → T (mem z (x ∷ tnames o ++ names v)) → r z ≡ r' z) where
  at_channel : r x ≡ r' x
  at_channel = e x (or_left (eqb x x) (mem x (tnames o ++ names v)) (eqb_refl x))

  at_tag : AllT o (λ n. r n ≡ r' n)
  at_tag = AllT-map o (λ n h. e n (or_right (eqb n x) (mem n (tnames o ++ names v)) (mem_left n (tnames o) (names v) h))) (AllT-names o)

  at_value : (c : Level) → Guests c r v → Guests c r' v
  at_value c h z k = subst (Guest c) (e z (or_right (eqb z x) (mem z (tnames o ++ names v)) (mem_right z (tnames o) (names v) k))) (h z k)

hear_agree : (c : Level) (r r' : ℕ → Role) (x : ℕ) (o : Tag ℕ) → r x ≡ r' x → AllT o (λ n. r n ≡ r' n) → HearOk c r x o → HearOk c r' x o
hear_agree c r r' x (plain i) e f h = in_agree c r r' x i e f h
hear_agree c r r' x received_parent e f h = h
hear_agree c r r' x (received_child n) e f h = sym f ∙ h

speaks_agree : (r r' : ℕ → Role) (l : Label) → ((z : ℕ) → T (mem z (lnames l)) → r z ≡ r' z) → Speaks r l → Speaks r' l
speaks_agree r r' tau e h = tt
speaks_agree r r' (send x o v) e h = (h.0, out_agree h.0 r r' x o (at_channel r r' x o v e) (at_tag r r' x o v e) h.1, at_value r r' x o v e h.0 h.2)
speaks_agree r r' (recv x o v) e h = (h.0, hear_agree h.0 r r' x o (at_channel r r' x o v e) (at_tag r r' x o v e) h.1)

told_agree : (r r' : ℕ → Role) (l : Label) → ((z : ℕ) → T (mem z (lnames l)) → r z ≡ r' z) → Told r l → Told r' l
told_agree r r' tau e h = tt
told_agree r r' (send x o v) e h = tt
told_agree r r' (recv x o v) e h = λ c k.
    let e' : (z : ℕ) → T (mem z (x ∷ tnames o ++ names v)) → r' z ≡ r z = λ z j. sym (e z j) in
    let q = h c (hear_agree c r' r x o (at_channel r' r x o v e') (at_tag r' r x o v e') k) in
    (subst (Guest c) (at_channel r r' x o v e) q.0, at_value r r' x o v e c q.1)

given_label : (x : ℕ) (a : Role) (r : ℕ → Role) (l : Label) → Out∉ (lnames l) x → (z : ℕ) → T (mem z (lnames l)) → given x a r z ≡ r z
given_label x a r l h z k = given_off x a r z (apart (lnames l) x z h k)

out_guest : (c : Level) (r : ℕ → Role) (x : ℕ) (o : Tag ℕ) → OutOk c r x o → Guest c (r x)
out_guest c r x (plain within) h = absurd h
out_guest c r x (plain parent) h = h.1
out_guest c r x (plain (child n)) h = h.1
out_guest c r x received_parent h = absurd h
out_guest c r x (received_child n) h = h.1

-- a name that is sent out is a guest
freed_guest : (r : ℕ → Role) (x y : ℕ) (o : Tag ℕ) (v : Val ℕ) → In (movable y o v) x → (h : Speaks r (send y o v)) → Guest h.0 (r x)
freed_guest r x y o v i h = go (mv o) i
  where
    go : (b : Bool) → T (mem x (cond b (y ∷ names v) (names v))) → Guest h.0 (r x)
    go true k = ⊎_elim (λ p. subst (λ z. Guest h.0 (r z)) (sym (eqb→eq x y p)) (out_guest h.0 r y o h.1)) (λ p. h.2 x p) (or_cases (eqb x y) (mem x (names v)) k)
    go false k = h.2 x k

-- within a wrapper an output and its complement concern one box of the wrapper, so that both are at its level
meet : (r : ℕ → Role) (x n : ℕ) (v : Val ℕ) (d c : Level) → (r n ≡ own d) × Guest d (r x) → Guests d r v → r n ≡ own c → Guest c (r x) × Guests c r v
meet r x n v d c h k e = let q : d ≡ c = level-of (sym h.0 ∙ e) in subst (λ b. Guest b (r x) × Guests b r v) q (h.1, k)
  where
    level-of : {a b : Level} → own a ≡ own b → a ≡ b
    level-of e = cc

told_by : (r : ℕ → Role) (x : ℕ) (o : Tag ℕ) (v : Val ℕ) → Speaks r (send x (comp o) v) → Told r (recv x o v)
told_by r x (plain within) v h = absurd h.1
told_by r x (plain parent) v h = absurd h.1
told_by r x (plain (child n)) v h = λ c e. meet r x n v h.0 c h.1 h.2 e
told_by r x received_parent v h = λ c e. absurd e
told_by r x (received_child n) v h = λ c e. meet r x n v h.0 c h.1 h.2 e

-- WHAT IS IN A BOX has guests' names only, and keeps so

-- the guests among some names
abbrev guests_in : Level → (ℕ → Role) → List ℕ → List ℕ
guests_in c r [] = []
guests_in c r (x ∷ A) = cond (is_guest c (r x)) (x ∷ guests_in c r A) (guests_in c r A)

is_in_lem : (c : Level) (r : ℕ → Role) (A : List ℕ) (z : ℕ) → In (guests_in c r A) z → In A z × Guest c (r z)
is_in_lem c r [] z i = absurd i
is_in_lem c r (x ∷ A) z i = go (is_guest c (r x)) refl i (λ k. is_in_lem c r A z k)
  where
    go : (b : Bool) → is_guest c (r x) ≡ b → T (mem z (cond b (x ∷ guests_in c r A) (guests_in c r A))) → (In (guests_in c r A) z → In A z × Guest c (r z)) → In (x ∷ A) z × Guest c (r z)
    go true e k f = ⊎_elim (λ p. (or_left (eqb z x) (mem z A) p, subst (λ y. Guest c (r y)) (sym (eqb→eq z x p)) (subst T (sym e) tt))) (λ p. (in_more A x z (f p).0, (f p).1)) (or_cases (eqb z x) (mem z (guests_in c r A)) k)
    go false e k f = (in_more A x z (f k).0, (f k).1)

in_is : (c : Level) (r : ℕ → Role) (A : List ℕ) (z : ℕ) → In A z → Guest c (r z) → In (guests_in c r A) z
in_is c r [] z i g = absurd i
in_is c r (x ∷ A) z i g = go (is_guest c (r x)) refl (or_cases (eqb z x) (mem z A) i) (λ k. in_is c r A z k g)
  where
    go : (b : Bool) → is_guest c (r x) ≡ b → T (eqb z x) ⊎ T (mem z A) → (In A z → In (guests_in c r A) z) → T (mem z (cond b (x ∷ guests_in c r A) (guests_in c r A)))
    go true e (inl p) f = or_left (eqb z x) (mem z (guests_in c r A)) p
    go true e (inr p) f = or_right (eqb z x) (mem z (guests_in c r A)) (f p)
    go false e (inl p) f = absurd (no_T (is_guest c (r x)) e (subst (λ y. Guest c (r y)) (eqb→eq z x p) g))
    go false e (inr p) f = f p

among : {U : Type 0} (c : Level) (A : List ℕ) (P : Proc U []) (r : ℕ → Role) → AllN P (λ x. Guest c (r x)) → Fn⊆ P A → Fn⊆ P (guests_in c r A)
among c A P r h f = AllN-map2 P (λ z i k. in_is c r A z i k) f h

module _ {U : Type 0} {A : List ℕ} {P P' : Proc U []} {w : Participants U} (c : Level) (r : ℕ → Role) (g : Guard A r) (h : AllN P (λ x. Guest c (r x))) where
  still : {l : Label} → Step A P l w P' → ((z : ℕ) → T (mem z (lnames l)) → Guest c (r z)) → AllN P' (λ x. Guest c (r x))
  still d k = AllN-map P' (λ z. ⊎_elim (λ p. k z p) (λ p. (is_in_lem c r A z p).1)) (step_fn (strengthen d (guests_in c r A) (λ z i. (is_in_lem c r A z i).0) (among c A P r h (step_source d))))

  risen : {x : ℕ} {v : Val ℕ} → Step A P (send x (plain parent) v) w P' → (z : ℕ) → T (mem z (x ∷ names v)) → Guest c (r z)
  risen d z k = go (mem z A) refl
    where
      go : (b : Bool) → mem z A ≡ b → Guest c (r z)
      go true e = (is_in_lem c r A z (send_names d (guests_in c r A) (among c A P r h (step_source d)) z k (subst T (sym e) tt))).1
      go false e = subst (Guest c) (sym (g z e)) tt

-- THE INVARIANT IS KEPT
pub keeps : {U : Type 0} {A : List ℕ} {P P' : Proc U []} {l : Label} {w : Participants U} → Step A P l w P' → (r : ℕ → Role) → Guard A r → Walled P r → Told r l → Speaks r l × Walled P' r
unfolding Walled AllN
keeps (Out {v = v} f) r g h k = ((h.0, h.1, guests_of h.0 r v h.2), tt)
keeps (In1 {p = p} {P = P} {v = v} {σ = σ} f e j) r g h k =
    let q = k h.0 h.1 in
    ((h.0, h.1), walled_inst p P v σ h.0 r e j (of_guests h.0 r v q.1) h.2)
keeps (Repl {p = p} {P = P} {v = v} {σ = σ} f e j) r g h k =
    let q = k h.0 h.1 in
    ((h.0, h.1), (h, walled_inst p P v σ h.0 r e j (of_guests h.0 r v q.1) h.2))
keeps {A = A} (CommL {P' = P'} {Q' = Q'} {x = x} {g = o} {v = v} d d') r g h k =
    let a = keeps d r g h.0 tt in
    let b = keeps d' r g h.1 (told_by r x o v a.0) in
    (tt, walled_news (beyond A (x ∷ names v)) A (par P' Q') r g (beyond_out A (x ∷ names v)) (a.1, b.1))
keeps {A = A} (CommR {P' = P'} {Q' = Q'} {x = x} {g = o} {v = v} d d') r g h k =
    let b = keeps d' r g h.1 tt in
    let a = keeps d r g h.0 (told_by r x o v b.0) in
    (tt, walled_news (beyond A (x ∷ names v)) A (par P' Q') r g (beyond_out A (x ∷ names v)) (a.1, b.1))
keeps (ParL f d) r g h k = let a = keeps d r g h.0 k in (a.0, (a.1, h.1))
keeps (ParR f d) r g h k = let a = keeps d r g h.1 k in (a.0, (h.0, a.1))
keeps {A = A} (Box1 {P' = P'} {b = b} {n = n} {x = x} {v = v} {t = t} i d) r g h k =
    let c = h.0 in
    let q = risen c r g h.2 d in (
      tt,
      walled_news (beyond A (x ∷ names v)) A (par (out t x (received_child n) v) (box b n P')) r g (beyond_out A (x ∷ names v)) (
        (c, (h.1, q x (or_left (eqb x x) (mem x (names v)) (eqb_refl x))), of_guests c r v (λ z j. q z (or_right (eqb z x) (mem z (names v)) j))),
        (c, h.1, still c r g h.2 d q),
      ),
    )
keeps (Box2 {x = x} {v = v} f) r g h k =
    let q = k h.0 h.1 in
    ((h.0, h.1), (h.0, h.1, ((q.0, tt, of_guests h.0 r v q.1), h.2)))
keeps (Box3 i d) r g h k = (tt, (h.0, h.1, still h.0 r g h.2 d (λ z j. absurd j)))
keeps {A = A} (Res1 {P = P} {P' = P'} {l = l} x f hx hl d) r g h k =
    let a = bound h.0 in
    let r' = given x a r in
    let e = given_label x a r l hl in
    let q = keeps d r' (given_guard A x a r g) (walled_opened A x P a r hx f h.1) (told_agree r r' l (λ z j. sym (e z j)) k) in
    (speaks_agree r' r l e q.0, (h.0, transport (walled_ren (var ∷ []) P' (the_bound x) (ext a r)) q.1))
keeps {A = A} (Res2 {P = P} {P' = P'} {y = y} {o = o} {v = v} x f hx i j d) r g h k =
    let a = bound h.0 in
    freed h.0 (keeps d (given x a r) (given_guard A x a r g) (walled_opened A x P a r hx f h.1) tt)
  where
    freed : (b : Option Level) → Speaks (given x (bound b) r) (send y o v) × Walled P' (given x (bound b) r) → Speaks r (send y o v) × Walled P' r
    freed (some c) a = absurd (subst (Guest a.0.0) (given_on x (own c) r x (T_true (eqb x x) (eqb_refl x))) (freed_guest (given x (own c) r) x y o v i a.0))
    freed none a = subst (λ F. Speaks F (send y o v) × Walled P' F) (given_other x r (g x hx)) a
keeps (Struct d e) r g h k = let a = keeps d r g h k in (a.0, (cong_walled e r).0 a.1)

-- along a sequence
pub keeps_all : {A : List ℕ} {P Q : Proc (Unit {0}) []} {ls : List Label} → Seq A P ls Q → (r : ℕ → Role) → Guard A r → Walled P r → EachLabel (Told r) ls → EachLabel (Speaks r) ls × Walled Q r × Guard (grown_by ls A) r
keeps_all ended r g h k = (tt, h, g)
keeps_all {A} (first {l = l} p q) r g h k =
    let a = keeps p.1 r g h k.0 in
    let b = keeps_all q r (λ z j. g z (out_right z (lnames l) A j)) a.1 k.1 in
    ((a.0, b.0), b.1, b.2)

pub each_map : {F G : Label → Type 0} → ((l : Label) → F l → G l) → (ls : List Label) → EachLabel F ls → EachLabel G ls
each_map f [] h = tt
each_map f (l ∷ ls) h = (f l h.0, each_map f ls h.1)
