-- Transitions under fewer, and under more, known names (document 004, Lemma 11 and its like).
use mathlib.Core.Path.{◌≡◌, refl, sym, ◌∙◌, ap, ap₂, subst, subst₂}
use mathlib.Core.Logic.{inl, inr, ⊎_elim}
use mathlib.Core.List.{List, [], ◌∷◌, ◌++◌}
use mathlib.Core.Bool.{Bool, true, false, cond, ◌||◌}
use Prim.Native.Nat.{ℕ, suc, ◌+◌, ◌≤◌}
use native.Mathlib.Omega.{arith}
use lib.Dec.{eqb, T, eqb→eq, eqb_refl}
use Rattle.calculus.specs.Syntax.{Val, var, within, parent, child, Tag, plain, received_parent, received_child, once, replicated, Proc, par, box, new, out, inp, comp, AllN, AllV, AllT, opened, name_or, ren}
use Rattle.calculus.specs.Transitions.{Label, tau, send, recv, Participants, lone, joint, In, mem, Fn⊆, Out∉, names, tnames, lnames, beyond, restrict, Step, Out, In1, Repl, CommL, CommR, ParL}
use Rattle.calculus.specs.Transitions.{ParR, Box1, Box2, Box3, Res1, Res2, Struct}
use Rattle.calculus.proofs.Renaming.{ren_id, ren_agree, tren_id, tren_agree, vren-id, vren-agree, AllN-map, AllN-ren, AllV-map, AllT-map}
use Rattle.calculus.proofs.Parallels.{Each, each-names}
use Rattle.calculus.proofs.Equivariance.{lren, step_ren}
use Rattle.calculus.proofs.FreeNames.{or_cases, or_left, or_right, or_false_r, mem_cases, mem_left, mem_right, no_T, eqb_sym, tag_in, AllV-names, step_fn, step_source}
use Rattle.calculus.proofs.Restriction.{swap, swap_x, swap_swap, swap_other, map_fix, inj_of}
use Rattle.calculus.proofs.Members.{step_members}

-- truth values
pub or_false_l : (a b : Bool) → a || b ≡ false → a ≡ false
or_false_l true b e = absurd (no_T true e tt)
or_false_l false b e = refl

pub or_both : (a b : Bool) → a ≡ false → b ≡ false → a || b ≡ false
or_both a b e k = ap₂ (λ c d. c || d) e k

pub bool_same : (a b : Bool) → (T a → T b) → (T b → T a) → a ≡ b
bool_same true true f g = refl
bool_same true false f g = absurd (f tt)
bool_same false true f g = absurd (g tt)
bool_same false false f g = refl

pub bool_no : (b : Bool) → (T b → ⊥) → b ≡ false
bool_no true f = absurd (f tt)
bool_no false f = refl

-- lists
pub out_left : (x : ℕ) (l k : List ℕ) → Out∉ (l ++ k) x → Out∉ l x
out_left x l k e = bool_no (mem x l) (λ h. no_T (mem x (l ++ k)) e (mem_left x l k h))

pub out_right : (x : ℕ) (l k : List ℕ) → Out∉ (l ++ k) x → Out∉ k x
out_right x l k e = bool_no (mem x k) (λ h. no_T (mem x (l ++ k)) e (mem_right x l k h))

pub each_mem : (A : ℕ → Type 0) (l : List ℕ) (z : ℕ) → Each A l → T (mem z l) → A z
each_mem A [] z h k = absurd k
each_mem A (x ∷ l) z h k = ⊎_elim (λ a. subst A (sym (eqb→eq z x a)) h.0) (λ b. each_mem A l z h.1 b) (or_cases (eqb z x) (mem z l) k)

pub in_more : (A : List ℕ) (x z : ℕ) → In A z → In (x ∷ A) z
in_more A x z h = or_right (eqb z x) (mem z A) h

pub more_in : (A B : List ℕ) (x : ℕ) → ((z : ℕ) → In A z → In B z) → (z : ℕ) → In (x ∷ A) z → In (x ∷ B) z
more_in A B x f z h = ⊎_elim (λ a. or_left (eqb z x) (mem z B) a) (λ b. or_right (eqb z x) (mem z B) (f z b)) (or_cases (eqb z x) (mem z A) h)

-- a name that no list of K holds
abbrev over : List ℕ → ℕ
over [] = 0
over (x ∷ K) = suc x + over K

over_out : (K : List ℕ) (u : ℕ) → over K ≤ u → Out∉ K u
over_out [] u h = refl
over_out (x ∷ K) u h = or_both (eqb u x) (mem u K) (bool_no (eqb u x) (λ e. let q : u ≡ x = eqb→eq u x e in omega arith)) (over_out K u (omega arith))

pub fresh : (K : List ℕ) → (u : ℕ) × Out∉ K u
fresh K = (over K, over_out K (over K) (omega arith))

-- the binder opened
pub opened_fn : {M : Type 0} (A : List ℕ) (P : Proc M (var ∷ [])) (x : ℕ) → Fn⊆ (new P) A → Fn⊆ (opened P x) (x ∷ A)
unfolding AllN
opened_fn A P x h = AllN-ren [] P (name_or x) (In (x ∷ A)) (AllN-map P (elim [ inl b ↦ λ k. or_left (eqb x x) (mem x A) (eqb_refl x) | inr n ↦ λ k. or_right (eqb n x) (mem n A) k ]) h)

-- The names beyond A depend on what A says of the names of the list alone
pub beyond_agree : (A B L : List ℕ) → ((z : ℕ) → T (mem z L) → mem z A ≡ mem z B) → beyond A L ≡ beyond B L
beyond_agree A B [] h = refl
beyond_agree A B (x ∷ L) h =
    ap₂ (λ (t : Bool) (r : List ℕ). cond t r (x ∷ beyond (x ∷ A) L)) (h x (or_left (eqb x x) (mem x L) (eqb_refl x))) (beyond_agree A B L (λ z k. h z (or_right (eqb z x) (mem z L) k)))
    ∙ ap (λ (r : List ℕ). cond (mem x B) (beyond B L) (x ∷ r)) (beyond_agree (x ∷ A) (x ∷ B) L (λ z k. ap (λ (t : Bool). eqb z x || t) (h z (or_right (eqb z x) (mem z L) k))))

pub beyond_skip : (A L : List ℕ) (x : ℕ) → Out∉ L x → beyond (x ∷ A) L ≡ beyond A L
beyond_skip A L x e = beyond_agree (x ∷ A) A L (λ z k. ap (λ (t : Bool). t || mem z A) (bool_no (eqb z x) (λ q. no_T (mem x L) e (subst (λ y. T (mem y L)) (eqb→eq z x q) k))))

-- A name that an output shows is known, or new to all that is known
abbrev pub Shown : List ℕ → List ℕ → Label → Type 0
Shown A B tau = Unit {0}
Shown A B (send y o v) = (z : ℕ) → T (mem z (y ∷ tnames o ++ names v)) → In B z → In A z
Shown A B (recv y o v) = Unit {0}

label_in : (A : List ℕ) (x : ℕ) (o : Tag ℕ) (v : Val ℕ) → In A x → AllT o (In A) → AllV v (In A) → (z : ℕ) → T (mem z (x ∷ tnames o ++ names v)) → In A z
label_in A x o v hx ho hv z k =
    ⊎_elim (λ a. subst (In A) (sym (eqb→eq z x a)) hx)
    (λ b. ⊎_elim (λ c. tag_in (In A) o z c ho) (λ c. each_mem (In A) (names v) z (each-names (In A) v hv) c) (mem_cases z (tnames o) (names v) b))
    (or_cases (eqb z x) (mem z (tnames o ++ names v)) k)

pub data_of : (x : ℕ) (o : Tag ℕ) (v : Val ℕ) (z : ℕ) → T (mem z (x ∷ names v)) → T (mem z (x ∷ tnames o ++ names v))
data_of x o v z k = ⊎_elim (λ a. or_left (eqb z x) (mem z (tnames o ++ names v)) a) (λ b. or_right (eqb z x) (mem z (tnames o ++ names v)) (mem_right z (tnames o) (names v) b)) (or_cases (eqb z x) (mem z (names v)) k)

shown_drop : (A B : List ℕ) (x : ℕ) (l : Label) → Out∉ (lnames l) x → Shown (x ∷ A) (x ∷ B) l → Shown A B l
shown_drop A B x tau e h = tt
shown_drop A B x (send y o v) e h = λ z k j. ⊎_elim (λ a. absurd (no_T (mem x (y ∷ tnames o ++ names v)) e (subst (λ q. T (mem q (y ∷ tnames o ++ names v))) (eqb→eq z x a) k))) (λ b. b)
    (or_cases (eqb z x) (mem z A) (h z k (in_more B x z j)))
shown_drop A B x (recv y o v) e h = tt

pub send_names : {M : Type 0} {B : List ℕ} {P P' : Proc M []} {l : Label} {w : Participants M} → Step B P l w P' → (A : List ℕ) → Fn⊆ P A → Shown A B l
unfolding AllN
send_names (Out {x = x} {o = o} {v = v} h) A k = λ z j i. label_in A x o v k.0 k.1 k.2 z j
send_names (In1 h e j) A k = tt
send_names (Repl h e j) A k = tt
send_names (CommL d d') A k = tt
send_names (CommR d d') A k = tt
send_names (ParL h d) A k = send_names d A k.0
send_names (ParR h d) A k = send_names d A k.1
send_names (Box1 h d) A k = tt
send_names (Box2 h) A k = tt
send_names (Box3 h d) A k = tt
send_names {B = B} (Res1 {P = P} {l = l} x s h j d) A k = shown_drop A B x l j (send_names d (x ∷ A) (opened_fn A P x k))
send_names {B = B} (Res2 {P = P} x s h i j d) A k = λ z m n. ⊎_elim (λ a. absurd (no_T (mem x B) h (subst (In B) (eqb→eq z x a) n))) (λ b. b) (or_cases (eqb z x) (mem z A) (send_names d (x ∷ A) (opened_fn A P x k) z m (in_more B x z n)))
send_names (Struct d e) A k = send_names d A k

-- Fewer names known: those of the process are enough
shown_beyond : (A B : List ℕ) (x : ℕ) (o : Tag ℕ) (v : Val ℕ) → ((z : ℕ) → In A z → In B z) → Shown A B (send x o v) → beyond B (x ∷ names v) ≡ beyond A (x ∷ names v)
shown_beyond A B x o v f h = beyond_agree B A (x ∷ names v) (λ z k. bool_same (mem z B) (mem z A) (h z (data_of x o v z k)) (f z))

out_fewer : (A B : List ℕ) (x : ℕ) → ((z : ℕ) → In A z → In B z) → Out∉ B x → Out∉ A x
out_fewer A B x f e = bool_no (mem x A) (λ h. no_T (mem x B) e (f x h))

pub strengthen : {M : Type 0} {B : List ℕ} {P P' : Proc M []} {l : Label} {w : Participants M} → Step B P l w P' → (A : List ℕ) → ((z : ℕ) → In A z → In B z) → Fn⊆ P A → Step A P l w P'
unfolding AllN
strengthen (Out h) A f k = Out k
strengthen (In1 h e j) A f k = In1 k e j
strengthen (Repl h e j) A f k = Repl k e j
strengthen {B = B} (CommL {P = P} {Q = Q} {P' = P'} {Q' = Q'} {x = x} {g = g} {v = v} {t = t} {u = u} d d') A f k =
    subst (λ r. Step A (par P Q) tau (joint t u) (restrict r (par P' Q'))) (sym (shown_beyond A B x (comp g) v f (send_names d A k.0))) (CommL (strengthen d A f k.0) (strengthen d' A f k.1))
strengthen {B = B} (CommR {P = P} {Q = Q} {P' = P'} {Q' = Q'} {x = x} {g = g} {v = v} {t = t} {u = u} d d') A f k =
    subst (λ r. Step A (par P Q) tau (joint t u) (restrict r (par P' Q'))) (sym (shown_beyond A B x (comp g) v f (send_names d' A k.1))) (CommR (strengthen d A f k.0) (strengthen d' A f k.1))
strengthen (ParL h d) A f k = ParL k.1 (strengthen d A f k.0)
strengthen (ParR h d) A f k = ParR k.0 (strengthen d A f k.1)
strengthen {B = B} (Box1 {P = P} {P' = P'} {b = b} {n = n} {x = x} {v = v} {t = t} h d) A f k =
    subst (λ r. Step A (box b n P) tau (lone t) (restrict r (par (out t x (received_child n) v) (box b n P')))) (sym (shown_beyond A B x (plain parent) v f (send_names d A k.1))) (Box1 k.0 (strengthen d A f k.1))
strengthen (Box2 h) A f k = Box2 k
strengthen (Box3 h d) A f k = Box3 k.0 (strengthen d A f k.1)
strengthen {B = B} (Res1 {P = P} x s h j d) A f k = Res1 x k (out_fewer A B x f h) j (strengthen d (x ∷ A) (more_in A B x f) (opened_fn A P x k))
strengthen {B = B} (Res2 {P = P} x s h i j d) A f k = Res2 x k (out_fewer A B x f h) i j (strengthen d (x ∷ A) (more_in A B x f) (opened_fn A P x k))
strengthen (Struct d e) A f k = Struct (strengthen d A f k) e

-- One name more: any but finitely many
pub fn_more : {M : Type 0} (A : List ℕ) (u : ℕ) (P : Proc M []) → Fn⊆ P A → Fn⊆ P (u ∷ A)
fn_more A u P h = AllN-map P (in_more A u) h

pub or_flip : (a b c : Bool) → a || (b || c) ≡ b || (a || c)
or_flip true true c = refl
or_flip true false c = refl
or_flip false b c = refl

pub known_swap : {M : Type 0} {A : List ℕ} {x y : ℕ} {P P' : Proc M []} {l : Label} {w : Participants M} → Step (x ∷ y ∷ A) P l w P' → Step (y ∷ x ∷ A) P l w P'
known_swap {A = A} {x} {y} d = step_members d (y ∷ x ∷ A) (λ z. or_flip (eqb z x) (eqb z y) (mem z A))

abbrev pub AlmostAny : {M : Type 0} → List ℕ → Proc M [] → Label → Participants M → Proc M [] → Type 0
AlmostAny A P l w P' = (K : List ℕ) × ((u : ℕ) → Out∉ K u → Step (u ∷ A) P l w P')

weaken_new : {M : Type 0} {A : List ℕ} {P P' : Proc M []} {l : Label} {w : Participants M} → Step A P l w P' → AlmostAny A P l w P'
weaken_new {A = A} (Out {t = t} {x = x} {o = o} {v = v} h) = ([], λ u k. Out (fn_more A u (out t x o v) h))
weaken_new {A = A} (In1 {t = t} {x = x} {i = i} {p = p} {P = P} h e j) = ([], λ u k. In1 (fn_more A u (inp once t x i p P) h) e j)
weaken_new {A = A} (Repl {t = t} {x = x} {i = i} {p = p} {P = P} h e j) = ([], λ u k. Repl (fn_more A u (inp replicated t x i p P) h) e j)
weaken_new {A = A} (CommL {P = P} {Q = Q} {P' = P'} {Q' = Q'} {x = x} {g = g} {v = v} {t = t} {u = u'} d d') =
    let r = weaken_new d in let q = weaken_new d' in (
      r.0 ++ (q.0 ++ (x ∷ names v)),
      λ u k. subst (λ l. Step (u ∷ A) (par P Q) tau (joint t u') (restrict l (par P' Q')))
          (beyond_skip A (x ∷ names v) u (out_right u q.0 (x ∷ names v) (out_right u r.0 (q.0 ++ (x ∷ names v)) k)))
          (CommL (r.1 u (out_left u r.0 (q.0 ++ (x ∷ names v)) k)) (q.1 u (out_left u q.0 (x ∷ names v) (out_right u r.0 (q.0 ++ (x ∷ names v)) k)))),
    )
weaken_new {A = A} (CommR {P = P} {Q = Q} {P' = P'} {Q' = Q'} {x = x} {g = g} {v = v} {t = t} {u = u'} d d') =
    let r = weaken_new d in let q = weaken_new d' in (
      r.0 ++ (q.0 ++ (x ∷ names v)),
      λ u k. subst (λ l. Step (u ∷ A) (par P Q) tau (joint t u') (restrict l (par P' Q')))
          (beyond_skip A (x ∷ names v) u (out_right u q.0 (x ∷ names v) (out_right u r.0 (q.0 ++ (x ∷ names v)) k)))
          (CommR (r.1 u (out_left u r.0 (q.0 ++ (x ∷ names v)) k)) (q.1 u (out_left u q.0 (x ∷ names v) (out_right u r.0 (q.0 ++ (x ∷ names v)) k)))),
    )
weaken_new {A = A} (ParL {Q = Q} h d) = let r = weaken_new d in (r.0, λ u k. ParL (fn_more A u Q h) (r.1 u k))
weaken_new {A = A} (ParR {P = P} h d) = let r = weaken_new d in (r.0, λ u k. ParR (fn_more A u P h) (r.1 u k))
weaken_new {A = A} (Box1 {P = P} {P' = P'} {b = b} {n = n} {x = x} {v = v} {t = t} h d) =
    let r = weaken_new d in (
      r.0 ++ (x ∷ names v),
      λ u k. subst (λ l. Step (u ∷ A) (box b n P) tau (lone t) (restrict l (par (out t x (received_child n) v) (box b n P'))))
          (beyond_skip A (x ∷ names v) u (out_right u r.0 (x ∷ names v) k)) (Box1 (in_more A u n h) (r.1 u (out_left u r.0 (x ∷ names v) k))),
    )
weaken_new {A = A} (Box2 {P = P} {b = b} {n = n} h) = ([], λ u k. Box2 (fn_more A u (box b n P) h))
weaken_new {A = A} (Box3 {n = n} h d) = let r = weaken_new d in (r.0, λ u k. Box3 (in_more A u n h) (r.1 u k))
weaken_new {A = A} (Res1 {P = P} x s h j d) =
    let r = weaken_new d in
    (x ∷ r.0, λ u k. Res1 x (fn_more A u (new P) s) (or_both (eqb x u) (mem x A) (eqb_sym x u ∙ or_false_l (eqb u x) (mem u r.0) k) h) j (known_swap (r.1 u (or_false_r (eqb u x) (mem u r.0) k))))
weaken_new {A = A} (Res2 {P = P} x s h i j d) =
    let r = weaken_new d in
    (x ∷ r.0, λ u k. Res2 x (fn_more A u (new P) s) (or_both (eqb x u) (mem x A) (eqb_sym x u ∙ or_false_l (eqb u x) (mem u r.0) k) h) i j (known_swap (r.1 u (or_false_r (eqb u x) (mem u r.0) k))))
weaken_new (Struct d e) = let r = weaken_new d in (r.0, λ u k. Struct (r.1 u k) e)

-- and one that the label does not name
pub AllT-names : (o : Tag ℕ) → AllT o (λ y. T (mem y (tnames o)))
AllT-names (plain within) = tt
AllT-names (plain parent) = tt
AllT-names (plain (child n)) = or_left (eqb n n) false (eqb_refl n)
AllT-names received_parent = tt
AllT-names (received_child n) = or_left (eqb n n) false (eqb_refl n)

pub lren_fix : (l : Label) (f : ℕ → ℕ) → ((z : ℕ) → T (mem z (lnames l)) → f z ≡ z) → lren l f ≡ l
lren_fix tau f h = refl
lren_fix (send x o v) f h = λ k. send (h x (or_left (eqb x x) (mem x (tnames o ++ names v)) (eqb_refl x)) k)
    ((tren_agree o f (λ z. z) (AllT-map o (λ z j. h z (or_right (eqb z x) (mem z (tnames o ++ names v)) (mem_left z (tnames o) (names v) j))) (AllT-names o)) ∙ tren_id o) k)
    ((vren-agree v f (λ z. z) (AllV-map v (λ z j. h z (or_right (eqb z x) (mem z (tnames o ++ names v)) (mem_right z (tnames o) (names v) j))) (AllV-names v)) ∙ vren-id v) k)
lren_fix (recv x o v) f h = λ k. recv (h x (or_left (eqb x x) (mem x (tnames o ++ names v)) (eqb_refl x)) k)
    ((tren_agree o f (λ z. z) (AllT-map o (λ z j. h z (or_right (eqb z x) (mem z (tnames o ++ names v)) (mem_left z (tnames o) (names v) j))) (AllT-names o)) ∙ tren_id o) k)
    ((vren-agree v f (λ z. z) (AllV-map v (λ z j. h z (or_right (eqb z x) (mem z (tnames o ++ names v)) (mem_right z (tnames o) (names v) j))) (AllV-names v)) ∙ vren-id v) k)

pub ren_fix : {M : Type 0} (P : Proc M []) (f : ℕ → ℕ) → AllN P (λ z. f z ≡ z) → ren {r = []} P f ≡ P
ren_fix P f h = ren_agree {r = []} P f (λ z. z) h ∙ ren_id P

pub weaken : {M : Type 0} {A : List ℕ} {P P' : Proc M []} {l : Label} {w : Participants M} (x : ℕ) → Out∉ A x → Out∉ (lnames l) x → Step A P l w P' → Step (x ∷ A) P l w P'
weaken {A = A} {P} {P'} {l} {w} x hx hl d =
    subst₂ (λ Q Q'. Step (x ∷ A) Q l w Q') (ren_fix P f (AllN-map P fix_a (step_source d))) (ren_fix P' f (AllN-map P' (λ z. ⊎_elim (fix_l z) (fix_a z)) (step_fn d)))
    (subst₂ (λ B k. Step B (ren {r = []} P f) k w (ren {r = []} P' f)) (ap₂ (λ a b. a ∷ b) (swap_x u x) (map_fix A f fix_a)) (lren_fix l f fix_l)
    (step_ren f (inj_of f f (swap_swap u x)) (r.1 u (out_left u r.0 (A ++ lnames l) c.1))))
  where
    r : AlmostAny A P l w P'
    r = weaken_new d

    c : (u : ℕ) × Out∉ (r.0 ++ (A ++ lnames l)) u
    c = fresh (r.0 ++ (A ++ lnames l))

    u : ℕ
    u = c.0

    f : ℕ → ℕ
    f = swap u x

    fix : (L : List ℕ) → Out∉ L u → Out∉ L x → (z : ℕ) → T (mem z L) → swap u x z ≡ z
    fix L e k z h = swap_other u x z (bool_no (eqb u z) (λ q. no_T (mem u L) e (subst (λ y. T (mem y L)) (sym (eqb→eq u z q)) h))) (bool_no (eqb x z) (λ q. no_T (mem x L) k (subst (λ y. T (mem y L)) (sym (eqb→eq x z q)) h)))

    fix_a : (z : ℕ) → In A z → swap u x z ≡ z
    fix_a z h = fix A (out_left u A (lnames l) (out_right u r.0 (A ++ lnames l) c.1)) hx z h

    fix_l : (z : ℕ) → T (mem z (lnames l)) → swap u x z ≡ z
    fix_l z h = fix (lnames l) (out_right u A (lnames l) (out_right u r.0 (A ++ lnames l) c.1)) hl z h

-- an input, of a name that it receives
abbrev pub IsRecv : Label → Type 0
IsRecv tau = ⊥
IsRecv (send y o v) = ⊥
IsRecv (recv y o v) = Unit {0}

pub weaken_recv : {M : Type 0} {A : List ℕ} {P P' : Proc M []} {l : Label} {w : Participants M} → Step A P l w P' → (x : ℕ) → IsRecv l → T (mem x (lnames l)) → Step (x ∷ A) P l w P'
weaken_recv (Out h) x r k = absurd r
weaken_recv {A = A} (In1 {t = t} {x = y} {i = i} {p = p} {P = P} h e j) x r k = In1 (fn_more A x (inp once t y i p P) h) e j
weaken_recv {A = A} (Repl {t = t} {x = y} {i = i} {p = p} {P = P} h e j) x r k = Repl (fn_more A x (inp replicated t y i p P) h) e j
weaken_recv (CommL d d') x r k = absurd r
weaken_recv (CommR d d') x r k = absurd r
weaken_recv {A = A} (ParL {Q = Q} h d) x r k = ParL (fn_more A x Q h) (weaken_recv d x r k)
weaken_recv {A = A} (ParR {P = P} h d) x r k = ParR (fn_more A x P h) (weaken_recv d x r k)
weaken_recv (Box1 h d) x r k = absurd r
weaken_recv {A = A} (Box2 {P = P} {b = b} {n = n} h) x r k = Box2 (fn_more A x (box b n P) h)
weaken_recv (Box3 h d) x r k = absurd r
weaken_recv {A = A} (Res1 {P = P} {l = l} z s h j d) x r k =
    Res1 z (fn_more A x (new P) s) (or_both (eqb z x) (mem z A) (bool_no (eqb z x) (λ q. no_T (mem z (lnames l)) j (subst (λ y. T (mem y (lnames l))) (sym (eqb→eq z x q)) k))) h) j (known_swap (weaken_recv d x r k))
weaken_recv (Res2 z s h i j d) x r k = absurd r
weaken_recv (Struct d e) x r k = Struct (weaken_recv d x r k) e

-- The tag of what a process receives is its own, and so is the channel but for a box
abbrev pub Asked : List ℕ → Label → Type 0
Asked A tau = Unit {0}
Asked A (send y o v) = Unit {0}
Asked A (recv y (plain i) v) = In A y × AllT (plain i) (In A)
Asked A (recv y received_parent v) = ⊥
Asked A (recv y (received_child n) v) = In A n

AllT-both : (A B : ℕ → Type 0) (o : Tag ℕ) → AllT o A → AllT o B → AllT o (λ z. A z × B z)
AllT-both A B (plain within) h k = tt
AllT-both A B (plain parent) h k = tt
AllT-both A B (plain (child n)) h k = (h, k)
AllT-both A B received_parent h k = tt
AllT-both A B (received_child n) h k = (h, k)

asked_drop : (A : List ℕ) (x : ℕ) (l : Label) → Out∉ (lnames l) x → Asked (x ∷ A) l → Asked A l
asked_drop A x tau e h = tt
asked_drop A x (send y o v) e h = tt
asked_drop A x (recv y (plain i) v) e h = (
  drop-name y (or_left (eqb y y) (mem y (tnames (plain i) ++ names v)) (eqb_refl y)) h.0,
  AllT-map (plain i) (λ z k. drop-name z (or_right (eqb z y) (mem z (tnames (plain i) ++ names v)) (mem_left z (tnames (plain i)) (names v) k.0)) k.1)
      (AllT-both (λ z. T (mem z (tnames (plain i)))) (In (x ∷ A)) (plain i) (AllT-names (plain i)) h.1),
)
  where
    drop-name : (z : ℕ) → T (mem z (y ∷ tnames (plain i) ++ names v)) → In (x ∷ A) z → In A z
    drop-name z k j = ⊎_elim (λ a. absurd (no_T (mem x (y ∷ tnames (plain i) ++ names v)) e (subst (λ q. T (mem q (y ∷ tnames (plain i) ++ names v))) (eqb→eq z x a) k))) (λ b. b) (or_cases (eqb z x) (mem z A) j)
asked_drop A x (recv y received_parent v) e h = absurd h
asked_drop A x (recv y (received_child n) v) e h =
    ⊎_elim (λ a. absurd (no_T (mem x (y ∷ n ∷ names v)) e
    (subst (λ q. T (mem q (y ∷ n ∷ names v))) (eqb→eq n x a) (or_right (eqb n y) (mem n (n ∷ names v)) (or_left (eqb n n) (mem n (names v)) (eqb_refl n)))))) (λ b. b) (or_cases (eqb n x) (mem n A) h)

pub recv_asked : {M : Type 0} {B : List ℕ} {P P' : Proc M []} {l : Label} {w : Participants M} → Step B P l w P' → (A : List ℕ) → Fn⊆ P A → Asked A l
unfolding AllN
recv_asked (Out h) A k = tt
recv_asked (In1 h e j) A k = (k.0, k.1)
recv_asked (Repl h e j) A k = (k.0, k.1)
recv_asked (CommL d d') A k = tt
recv_asked (CommR d d') A k = tt
recv_asked (ParL h d) A k = recv_asked d A k.0
recv_asked (ParR h d) A k = recv_asked d A k.1
recv_asked (Box1 h d) A k = tt
recv_asked (Box2 h) A k = k.0
recv_asked (Box3 h d) A k = tt
recv_asked (Res1 {P = P} {l = l} x s h j d) A k = asked_drop A x l j (recv_asked d (x ∷ A) (opened_fn A P x k))
recv_asked (Res2 x s h i j d) A k = tt
recv_asked (Struct d e) A k = recv_asked d A k
