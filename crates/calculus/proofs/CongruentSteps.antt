-- Structural congruence is a strong bisimulation: congruent processes have the same transitions.
use mathlib.Core.Path.{◌≡◌, refl, sym, ◌∙◌, ap, fun_ext, subst, subst₂}
use mathlib.Core.Logic.{◌⊎◌, inl, inr, ⊎_elim}
use mathlib.Core.List.{List, [], ◌∷◌, ◌++◌}
use mathlib.Core.Bool.{Bool, true, false, cond, ◌||◌}
use Prim.Native.Nat.{ℕ}
use lib.Dec.{eqb, T, eqb_refl}
use Rattle.calculus.specs.Syntax.{Val, nm, Pat, Vars, var, Scope, Name, ITag, within, parent, child, Tag, plain, received_parent, received_child, Mode, once, replicated, Proc, nil, par, box, new}
use Rattle.calculus.specs.Syntax.{out, inp, comp, AllN, AllV, outer, opened, closed, the_bound, name_or, ren, iren, under}
use Rattle.calculus.specs.Congruence.{Cong, ◌≋◌, swapped, par_nil, par_comm, par_assoc, new_new, new_par, new_box, rfl, symm, trans, in_par, in_box, in_new, in_inp}
use Rattle.calculus.specs.Transitions.{Label, tau, send, recv, Participants, lone, joint, In, mem, Fn⊆, Out∉, names, tnames, lnames, beyond, restrict, mv, movable, fixed, InstOk, Step, CommL}
use Rattle.calculus.specs.Transitions.{CommR, ParL, ParR, Box1, Box2, Box3, Res1, Res2, Struct}
use Rattle.calculus.specs.Bisimulation.{Bisimulation}
use Rattle.calculus.proofs.Renaming.{ren_ren, ren_id, ren_agree, AllN-map, AllV-map}
use Rattle.calculus.proofs.Extrusion.{cong_ren, swap_under, Fresh, bound_fresh, extrude_par, extrude_box, in_news, news_par}
use Rattle.calculus.proofs.Inversion.{InpInv, ParInv, left, right, comm_l, comm_r, BoxInv, rise, enter, inside, NewInv, keep, free, invert, after}
use Rattle.calculus.proofs.Parallels.{beyond_out, fresh_all, apart, recv_of, T_true}
use Rattle.calculus.proofs.FreeNames.{cong_fn, or_cases, or_left, or_right, or_false_r, no_T, eqb_sym, eqb-true, AllV-names, step_fn, step_source, movable_in}
use Rattle.calculus.proofs.Swaps.{new_swap, Off}
use Rattle.calculus.proofs.KnownNames.{fn_more, or_false_l, or_both, bool_no, out_left, out_right, in_more, fresh, opened_fn, beyond_agree, beyond_skip, send_names, data_of, strengthen}
use Rattle.calculus.proofs.KnownNames.{known_swap, or_flip, weaken, weaken_recv, recv_asked, Asked}
use Rattle.calculus.proofs.CongruentInstances.{cong_defined, cong_sub}

-- Q does what P does
abbrev pub Does : {M : Type 0} → Proc M [] → Proc M [] → Type 0
Does {M} P Q = (A : List ℕ) (l : Label) (w : Participants M) (R : Proc M []) → Step A P l w R → Step A Q l w R

pub does_then : {M : Type 0} (P Q R : Proc M []) → Does P Q → Does Q R → Does P R
does_then P Q R f g = λ A l w S d. g A l w S (f A l w S d)

-- P | 0 and P
module _ {M : Type 0} {A : List ℕ} {P R : Proc M []} where
  nil_off : {l : Label} {w : Participants M} → ParInv A P nil R l w → Step A P l w R
  nil_off (left d e) = Struct d (trans (symm par_nil) e)
  nil_off (right d e) = absurd (invert d)
  nil_off (comm_l d d' e) = absurd (invert d')
  nil_off (comm_r d d' e) = absurd (invert d')

-- P | Q and Q | P
module _ {M : Type 0} {A : List ℕ} {P Q R : Proc M []} where
  flipped : {l : Label} {w : Participants M} → Fn⊆ P A → Fn⊆ Q A → ParInv A P Q R l w → Step A (par Q P) l w R
  flipped h_p h_q (left d e) = Struct (ParR h_q d) (trans par_comm e)
  flipped h_p h_q (right d e) = Struct (ParL h_p d) (trans par_comm e)
  flipped h_p h_q (comm_l {x = x} {v = v} d d' e) = Struct (CommR d' d) (trans (in_news (beyond A (x ∷ names v)) par_comm) e)
  flipped h_p h_q (comm_r {x = x} {v = v} d d' e) = Struct (CommL d' d) (trans (in_news (beyond A (x ∷ names v)) par_comm) e)

pub does_nil_off : {M : Type 0} (P : Proc M []) → Does (par P nil) P
does_nil_off P A l w R d = nil_off (invert d)

pub does_nil_on : {M : Type 0} (P : Proc M []) → Does P (par P nil)
unfolding AllN
does_nil_on P A l w R d = Struct (ParL tt d) par_nil

pub does_comm : {M : Type 0} (P Q : Proc M []) → Does (par P Q) (par Q P)
unfolding AllN
does_comm P Q A l w R d = flipped (step_source d).0 (step_source d).1 (invert d)

-- a context P | Q
module _ {M : Type 0} {A : List ℕ} {P P' Q Q' R : Proc M []} (e_p : P ≋ P') (e_q : Q ≋ Q') (f : Does P P') (g : Does Q Q') where
  pared : {l : Label} {w : Participants M} → Fn⊆ P' A → Fn⊆ Q' A → ParInv A P Q R l w → Step A (par P' Q') l w R
  pared {l} {w} h_p h_q (left {P' = P1} d e) = Struct (ParL h_q (f A l w P1 d)) (trans (in_par rfl (symm e_q)) e)
  pared {l} {w} h_p h_q (right {Q' = Q1} d e) = Struct (ParR h_p (g A l w Q1 d)) (trans (in_par (symm e_p) rfl) e)
  pared h_p h_q (comm_l {x = x} {g = o} {v = v} {t = t} {u = u} {P' = P1} {Q' = Q1} d d' e) = Struct (CommL (f A (send x (comp o) v) (lone t) P1 d) (g A (recv x o v) (joint t u) Q1 d')) e
  pared h_p h_q (comm_r {x = x} {g = o} {v = v} {t = t} {u = u} {P' = P1} {Q' = Q1} d d' e) = Struct (CommR (f A (recv x o v) (joint t u) P1 d) (g A (send x (comp o) v) (lone t) Q1 d')) e

pub does_par : {M : Type 0} (P P' Q Q' : Proc M []) → P ≋ P' → Q ≋ Q' → Does P P' → Does Q Q' → Does (par P Q) (par P' Q')
unfolding AllN
does_par P P' Q Q' e_p e_q f g A l w R d = pared e_p e_q f g ((cong_fn e_p (In A)).0 (step_source d).0) ((cong_fn e_q (In A)).0 (step_source d).1) (invert d)

-- (P | Q) | R and P | (Q | R)
news_par_r : {M : Type 0} (A L : List ℕ) (P Q : Proc M []) → Fn⊆ Q A → restrict (beyond A L) (par P Q) ≋ par (restrict (beyond A L) P) Q
news_par_r A L P Q h = trans (in_news (beyond A L) par_comm) (trans (news_par (beyond A L) Q P (fresh_all A (beyond A L) Q (beyond_out A L) h)) par_comm)

news_par_l : {M : Type 0} (A L : List ℕ) (P Q : Proc M []) → Fn⊆ P A → restrict (beyond A L) (par P Q) ≋ par P (restrict (beyond A L) Q)
news_par_l A L P Q h = news_par (beyond A L) P Q (fresh_all A (beyond A L) P (beyond_out A L) h)

fn_both : {M : Type 0} (A : List ℕ) (P Q : Proc M []) → Fn⊆ P A → Fn⊆ Q A → Fn⊆ (par P Q) A
unfolding AllN
fn_both A P Q h_p h_q = (h_p, h_q)

module _ {M : Type 0} {A : List ℕ} {P Q R S : Proc M []} (h_p : Fn⊆ P A) (h_q : Fn⊆ Q A) (h_r : Fn⊆ R A) where
  assoc_left : {X : Proc M []} {l : Label} {w : Participants M} → ParInv A P Q X l w → par X R ≋ S → Step A (par P (par Q R)) l w S
  assoc_left (left d f) e = Struct (ParL (fn_both A Q R h_q h_r) d) (trans (symm par_assoc) (trans (in_par f rfl) e))
  assoc_left (right d f) e = Struct (ParR h_p (ParL h_r d)) (trans (symm par_assoc) (trans (in_par f rfl) e))
  assoc_left (comm_l {x = x} {v = v} {P' = P1} {Q' = Q1} d d' f) e =
      Struct (CommL d (ParL h_r d')) (trans (in_news (beyond A (x ∷ names v)) (symm par_assoc)) (trans (news_par_r A (x ∷ names v) (par P1 Q1) R h_r) (trans (in_par f rfl) e)))
  assoc_left (comm_r {x = x} {v = v} {P' = P1} {Q' = Q1} d d' f) e =
      Struct (CommR d (ParL h_r d')) (trans (in_news (beyond A (x ∷ names v)) (symm par_assoc)) (trans (news_par_r A (x ∷ names v) (par P1 Q1) R h_r) (trans (in_par f rfl) e)))

  assoc_send : {X R1 : Proc M []} {x : ℕ} {v : Val ℕ} {t u : M} (g : Tag ℕ) → ParInv A P Q X (send x (comp g) v) (lone t) → Step A R (recv x g v) (joint t u) R1
      → restrict (beyond A (x ∷ names v)) (par X R1) ≋ S → Step A (par P (par Q R)) tau (joint t u) S
  assoc_send {x = x} {v = v} g (left d f) d' e = Struct (CommL d (ParR h_q d')) (trans (in_news (beyond A (x ∷ names v)) (trans (symm par_assoc) (in_par f rfl))) e)
  assoc_send {R1 = R1} {x = x} {v = v} g (right {Q' = Q1} d f) d' e =
      Struct (ParR h_p (CommL d d')) (trans (symm (news_par_l A (x ∷ names v) P (par Q1 R1) h_p)) (trans (in_news (beyond A (x ∷ names v)) (trans (symm par_assoc) (in_par f rfl))) e))

  assoc_recv : {X R1 : Proc M []} {x : ℕ} {v : Val ℕ} {t u : M} (g : Tag ℕ) → ParInv A P Q X (recv x g v) (joint t u) → Step A R (send x (comp g) v) (lone t) R1
      → restrict (beyond A (x ∷ names v)) (par X R1) ≋ S → Step A (par P (par Q R)) tau (joint t u) S
  assoc_recv {x = x} {v = v} g (left d f) d' e = Struct (CommR d (ParR h_q d')) (trans (in_news (beyond A (x ∷ names v)) (trans (symm par_assoc) (in_par f rfl))) e)
  assoc_recv {R1 = R1} {x = x} {v = v} g (right {Q' = Q1} d f) d' e =
      Struct (ParR h_p (CommR d d')) (trans (symm (news_par_l A (x ∷ names v) P (par Q1 R1) h_p)) (trans (in_news (beyond A (x ∷ names v)) (trans (symm par_assoc) (in_par f rfl))) e))

  assoc_any : {l : Label} {w : Participants M} → ParInv A (par P Q) R S l w → Step A (par P (par Q R)) l w S
  assoc_any (left d e) = assoc_left (invert d) e
  assoc_any (right d e) = Struct (ParR h_p (ParR h_q d)) (trans (symm par_assoc) e)
  assoc_any (comm_l {g = g} d d' e) = assoc_send g (invert d) d' e
  assoc_any (comm_r {g = g} d d' e) = assoc_recv g (invert d) d' e

pub does_assoc : {M : Type 0} (P Q R : Proc M []) → Does (par (par P Q) R) (par P (par Q R))
unfolding AllN
does_assoc P Q R A l w S d = let h = step_source d in assoc_any h.0.0 h.0.1 h.1 (invert d)

does_same : {M : Type 0} (P : Proc M []) → Does P P
does_same P A l w R d = d

pub does_assoc_back : {M : Type 0} (P Q R : Proc M []) → Does (par P (par Q R)) (par (par P Q) R)
does_assoc_back P Q R A l w S d =
    does_comm R (par P Q) A l w S
    (does_par R R (par Q P) (par P Q) rfl par_comm (does_same R) (does_comm Q P) A l w S
    (does_assoc R Q P A l w S
    (does_par (par Q R) (par R Q) P P par_comm rfl (does_comm Q R) (does_same P) A l w S
    (does_comm P (par Q R) A l w S d))))

-- a context n[P]
module _ {M : Type 0} {A : List ℕ} {b : M} {n : ℕ} {P Q R : Proc M []} (e : P ≋ Q) (f : Does P Q) where
  boxed : {l : Label} {w : Participants M} → In A n → Fn⊆ Q A → BoxInv A b n P R l w → Step A (box b n Q) l w R
  unfolding AllN
  boxed hn h_q (rise {x = x} {v = v} {t = t} {P' = P1} d k) = Struct (Box1 hn (f A (send x (plain parent) v) (lone t) P1 d)) k
  boxed hn h_q (enter k) = Struct (Box2 (hn, h_q)) (trans (in_box (in_par rfl (symm e))) k)
  boxed hn h_q (inside {w = w} {P' = P1} d k) = Struct (Box3 hn (f A tau w P1 d)) k

pub does_box : {M : Type 0} (b : M) (n : ℕ) (P Q : Proc M []) → P ≋ Q → Does P Q → Does (box b n P) (box b n Q)
unfolding AllN
does_box b n P Q e f A l w R d = boxed e f (step_source d).0 ((cong_fn e (In A)).0 (step_source d).1) (invert d)

-- a context (ν x)P
module _ {M : Type 0} {A : List ℕ} {P Q : Proc M (var ∷ [])} {R : Proc M []} (f : (x : ℕ) → Does (opened P x) (opened Q x)) (h_q : Fn⊆ (new Q) A) where
  newed : {l : Label} {w : Participants M} → NewInv A P R l w → Step A (new Q) l w R
  newed (keep {l = l} {w = w} {P' = P1} x h k d e) = Struct (Res1 x h_q h k (f x (x ∷ A) l w P1 d)) e
  newed (free {y = y} {o = o} {v = v} {w = w} {P' = P1} x h k j d e) = Struct (Res2 x h_q h k j (f x (x ∷ A) (send y o v) w P1 d)) e

pub does_new : {M : Type 0} (P Q : Proc M (var ∷ [])) → new P ≋ new Q → ((x : ℕ) → Does (opened P x) (opened Q x)) → Does (new P) (new Q)
does_new P Q e f A l w R d = newed f ((cong_fn e (In A)).0 (step_source d)) (invert d)

-- a context xp.P, or !xp.P
inp_after : {M : Type 0} (m : Mode) (t : M) (x : ℕ) (i : ITag ℕ) (p : Pat) (P Q : Proc M (p ∷ [])) (σ : Vars p → Val ℕ) → Cong (p ∷ []) P Q → InstOk P σ → after m t x i p P σ ≋ after m t x i p Q σ
inp_after once t x i p P Q σ e k = cong_sub {r = []} e (⊎_elim σ nm) k
inp_after replicated t x i p P Q σ e k = in_par (in_inp e) (cong_sub {r = []} e (⊎_elim σ nm) k)

pub does_inp : {M : Type 0} (m : Mode) (t : M) (x : ℕ) (i : ITag ℕ) (p : Pat) (P Q : Proc M (p ∷ [])) → Cong (p ∷ []) P Q → Does (inp m t x i p P) (inp m t x i p Q)
does_inp {M} m t x i p P Q e A l w R d = go (invert d)
  where
    h_q : Fn⊆ (inp m t x i p Q) A
    h_q = (cong_fn (in_inp {m = m} {t = t} {x = x} {i = i} e) (In A)).0 (step_source d)

    go : InpInv m t x i p P l w R → Step A (inp m t x i p Q) l w R
    go r = subst₂ (λ k z. Step A (inp m t x i p Q) k z R) (sym r.lab) (sym r.who)
        (Struct (recv_of m h_q r.fits ((cong_defined e (⊎_elim r.σ nm)).0 r.ok)) (trans (symm (inp_after m t x i p P Q r.σ e r.ok)) r.to))

-- Binders that a transition puts back
new_news : {M : Type 0} (x : ℕ) (N : List ℕ) (P : Proc M []) → Off x N → new (closed x (restrict N P)) ≋ restrict N (new (closed x P))
unfolding restrict
new_news x [] P h = rfl
new_news x (y ∷ N) P h = trans (new_swap x y (restrict N P) h.0) (in_new (cong_ren {r = var ∷ []} (new_news x N P h.1) (the_bound y)))

beyond_off : (A L : List ℕ) (x : ℕ) → Out∉ L x → Off x (beyond A L)
beyond_off A [] x e = tt
beyond_off A (y ∷ L) x e = go (mem y A) (beyond_off A L x (or_false_r (eqb x y) (mem x L) e)) (beyond_off (y ∷ A) L x (or_false_r (eqb x y) (mem x L) e))
  where
    go : (b : Bool) → Off x (beyond A L) → Off x (beyond (y ∷ A) L) → Off x (cond b (beyond A L) (y ∷ beyond (y ∷ A) L))
    go true h k = h
    go false h k = (or_false_l (eqb x y) (mem x L) e, k)

-- x is not in L
join_out : {M : Type 0} (A L : List ℕ) (x : ℕ) (P : Proc M []) → Out∉ L x → restrict (beyond A L) (new (closed x P)) ≋ new (closed x (restrict (beyond (x ∷ A) L) P))
join_out A L x P e = subst (λ N. restrict (beyond A L) (new (closed x P)) ≋ new (closed x (restrict N P))) (sym (beyond_skip A L x e)) (symm (new_news x (beyond A L) P (beyond_off A L x e)))

-- x is in L, and not in A
beyond_flip : (A L : List ℕ) (x y : ℕ) → beyond (x ∷ y ∷ A) L ≡ beyond (y ∷ x ∷ A) L
beyond_flip A L x y = beyond_agree (x ∷ y ∷ A) (y ∷ x ∷ A) L (λ z k. or_flip (eqb z x) (eqb z y) (mem z A))

join_in : {M : Type 0} (A L : List ℕ) (x : ℕ) (P : Proc M []) → Out∉ A x → T (mem x L) → restrict (beyond A L) P ≋ new (closed x (restrict (beyond (x ∷ A) L) P))
unfolding restrict
join_in A [] x P e h = absurd h
join_in {M} A (y ∷ L) x P e h = go (mem y A) refl (eqb y x) refl (or_cases (eqb x y) (mem x L) h) (λ k. join_in A L x P e k) (λ k j. join_in (y ∷ A) L x P k j)
  where
    go : (a : Bool) → mem y A ≡ a → (b : Bool) → eqb y x ≡ b → T (eqb x y) ⊎ T (mem x L)
        → (T (mem x L) → restrict (beyond A L) P ≋ new (closed x (restrict (beyond (x ∷ A) L) P)))
        → (Out∉ (y ∷ A) x → T (mem x L) → restrict (beyond (y ∷ A) L) P ≋ new (closed x (restrict (beyond (x ∷ y ∷ A) L) P)))
        → restrict (cond a (beyond A L) (y ∷ beyond (y ∷ A) L)) P ≋ new (closed x (restrict (cond (b || a) (beyond (x ∷ A) L) (y ∷ beyond (y ∷ x ∷ A) L)) P))
    go true p true q c f g = absurd (no_T (mem x A) e (subst (λ z. In A z) (eqb-true q) (subst (λ t. T t) (sym p) tt)))
    go true p false q (inl h) f g = absurd (no_T (eqb y x) q (subst (λ t. T t) (eqb_sym x y) h))
    go true p false q (inr h) f g = f h
    go false p true q c f g = subst (λ z. new (closed z (restrict (beyond (z ∷ A) L) P)) ≋ new (closed x (restrict (beyond (x ∷ A) L) P))) (sym (eqb-true q)) rfl
    go false p false q (inl h) f g = absurd (no_T (eqb y x) q (subst (λ t. T t) (eqb_sym x y) h))
    go false p false q (inr h) f g =
        trans (in_new (cong_ren {r = var ∷ []} (g (or_both (eqb x y) (mem x A) (eqb_sym x y ∙ q) e) h) (the_bound y)))
        (trans (new_swap y x (restrict (beyond (x ∷ y ∷ A) L) P) q)
        (subst (λ N. new (closed x (new (closed y (restrict (beyond (x ∷ y ∷ A) L) P)))) ≋ new (closed x (new (closed y (restrict N P))))) (beyond_flip A L x y) rfl))

-- fresh names
fresh_of : {M : Type 0} (A : List ℕ) (x : ℕ) (P : Proc M []) → Out∉ A x → Fn⊆ P A → Fresh x P
fresh_of A x P e h = AllN-map P (λ y k. apart A x y e k) h

fresh_val : (x : ℕ) (v : Val ℕ) → Out∉ (names v) x → AllV v (λ z. eqb x z ≡ false)
fresh_val x v e = AllV-map v (λ z k. apart (names v) x z e k) (AllV-names v)

fresh_after : {M : Type 0} {A : List ℕ} {P P' : Proc M []} {l : Label} {w : Participants M} (x : ℕ) → Out∉ A x → Out∉ (lnames l) x → Step A P l w P' → Fresh x P'
fresh_after {A = A} {P' = P'} {l = l} x hx hl d = AllN-map P' (λ z. ⊎_elim (λ k. apart (lnames l) x z hl k) (λ k. apart A x z hx k)) (step_fn d)

close_open : {M : Type 0} (A : List ℕ) (P : Proc M (var ∷ [])) (x : ℕ) → Out∉ A x → Fn⊆ (new P) A → closed x (opened P x) ≡ P
unfolding AllN
close_open A P x e h = ren_ren {q = var ∷ []} [] P (name_or x) (the_bound x) ∙ ren_agree {r = var ∷ []} P (λ y. the_bound x (name_or x y)) (λ y. y) (AllN-map P go h) ∙ ren_id P
  where
    go : (y : Unit {0} ⊎ ℕ) → outer (In A) y → the_bound x (name_or x y) ≡ y
    go (inl u) k = ap (λ b. cond b (inl tt) (inr x)) (T_true (eqb x x) (eqb_refl x))
    go (inr y) k = bound_fresh x y (apart A x y e k)

here : (A : List ℕ) (x : ℕ) → In (x ∷ A) x
here A x = or_left (eqb x x) (mem x A) (eqb_refl x)

again : {M : Type 0} (x : ℕ) {P Q R : Proc M []} → P ≋ Q → new (closed x Q) ≋ R → new (closed x P) ≋ R
again x f e = trans (in_new (cong_ren {r = var ∷ []} f (the_bound x))) e

-- (ν x)n[P] and n[(ν x)P]
rise_out : {M : Type 0} (A : List ℕ) (b t : M) (n x y : ℕ) (v : Val ℕ) (P : Proc M []) → eqb x n ≡ false → Out∉ (y ∷ names v) x
    → restrict (beyond A (y ∷ names v)) (par (out t y (received_child n) v) (box b n (new (closed x P)))) ≋ new (closed x (restrict (beyond (x ∷ A) (y ∷ names v)) (par (out t y (received_child n) v) (box b n P))))
unfolding AllN
rise_out A b t n x y v P hn e =
    trans (in_news (beyond A (y ∷ names v))
    (symm (trans (extrude_par x (out t y (received_child n) v) (box b n P) (or_false_l (eqb x y) (mem x (names v)) e, hn, fresh_val x v (or_false_r (eqb x y) (mem x (names v)) e))) (in_par rfl (extrude_box x b n P hn)))))
    (join_out A (y ∷ names v) x (par (out t y (received_child n) v) (box b n P)) e)

enter_out : {M : Type 0} (A : List ℕ) (b t : M) (n x y : ℕ) (v : Val ℕ) (P : Proc M (var ∷ [])) → eqb x n ≡ false → Out∉ (y ∷ names v) x → Out∉ A x → Fn⊆ (new P) A
    → new (closed x (box b n (par (out t y received_parent v) (opened P x)))) ≋ box b n (par (out t y received_parent v) (new P))
unfolding AllN
enter_out A b t n x y v P hn e hx h =
    trans (extrude_box x b n (par (out t y received_parent v) (opened P x)) hn) (in_box
    (subst (λ X. new (closed x (par (out t y received_parent v) (opened P x))) ≋ par (out t y received_parent v) (new X)) (close_open A P x hx h)
    (extrude_par x (out t y received_parent v) (opened P x) (or_false_l (eqb x y) (mem x (names v)) e, tt, fresh_val x v (or_false_r (eqb x y) (mem x (names v)) e)))))

out_data : (x y : ℕ) (o : Tag ℕ) (v : Val ℕ) → Out∉ (y ∷ tnames o ++ names v) x → Out∉ (y ∷ names v) x
out_data x y o v e = bool_no (mem x (y ∷ names v)) (λ k. no_T (mem x (y ∷ tnames o ++ names v)) e (data_of y o v x k))

abbrev Quiet : Label → Type 0
Quiet tau = Unit {0}
Quiet (send y o v) = ⊥
Quiet (recv y o v) = Unit {0}

box_quiet : {M : Type 0} {A : List ℕ} {b : M} {n : ℕ} {P R : Proc M []} {l : Label} {w : Participants M} → BoxInv A b n P R l w → Quiet l
box_quiet (rise d e) = tt
box_quiet (enter e) = tt
box_quiet (inside d e) = tt

module _ {M : Type 0} {A : List ℕ} {b : M} {n : ℕ} {P : Proc M (var ∷ [])} {R : Proc M []} (hn : In A n) (h_p : Fn⊆ (new P) A) where
  box_in_keep : {S : Proc M []} {l : Label} {w : Participants M} (x : ℕ) → Out∉ A x → Out∉ (lnames l) x → BoxInv (x ∷ A) b n (opened P x) S l w → new (closed x S) ≋ R → Step A (box b n (new P)) l w R
  unfolding AllN
  box_in_keep x hx hl (rise {x = y} {v = v} {t = t} {P' = P1} d f) e = go (mem x (y ∷ names v)) refl
    where
      go : (c : Bool) → mem x (y ∷ names v) ≡ c → Step A (box b n (new P)) tau (lone t) R
      go true k = Struct (Box1 hn (Res2 x h_p hx (subst (λ c. T c) (sym k) tt) refl d))
          (trans (join_in A (y ∷ names v) x (par (out t y (received_child n) v) (box b n P1)) hx (subst (λ c. T c) (sym k) tt)) (again x f e))
      go false k = Struct (Box1 hn (Res1 x h_p hx k d)) (trans (rise_out A b t n x y v P1 (apart A x n hx hn) k) (again x f e))
  box_in_keep x hx hl (enter {x = y} {v = v} {t = t} f) e = Struct (Box2 (hn, h_p)) (trans (symm (enter_out A b t n x y v P (apart A x n hx hn) (out_data x y (received_child n) v hl) hx h_p)) (again x f e))
  box_in_keep x hx hl (inside {P' = P1} d f) e = Struct (Box3 hn (Res1 x h_p hx refl d)) (trans (symm (extrude_box x b n P1 (apart A x n hx hn))) (again x f e))

  box_in : {l : Label} {w : Participants M} → NewInv A (box b (inr n) P) R l w → Step A (box b n (new P)) l w R
  unfolding ren
  box_in (keep x hx hl d e) = box_in_keep x hx hl (invert d) e
  box_in (free x hx k j d e) = absurd (box_quiet (invert d))

fn_box : {M : Type 0} (A : List ℕ) (b : M) (n : ℕ) (P : Proc M (var ∷ [])) → In A n → Fn⊆ (new P) A → Fn⊆ (new (box b (inr n) P)) A
unfolding AllN
fn_box A b n P hn h_p = (hn, h_p)

module _ {M : Type 0} {A : List ℕ} {b : M} {n : ℕ} {P : Proc M (var ∷ [])} {R : Proc M []} (hn : In A n) (h_p : Fn⊆ (new P) A) where
  box_out_rise : {S : Proc M []} {y : ℕ} {v : Val ℕ} {t : M} → NewInv A P S (send y (plain parent) v) (lone t)
      → restrict (beyond A (y ∷ names v)) (par (out t y (received_child n) v) (box b n S)) ≋ R → Step A (new (box b (inr n) P)) tau (lone t) R
  unfolding ren
  box_out_rise {y = y} {v = v} {t = t} (keep {P' = P1} x hx hl d f) e =
      Struct (Res1 x (fn_box A b n P hn h_p) hx refl (Box1 (in_more A x n hn) d))
      (trans (symm (rise_out A b t n x y v P1 (apart A x n hx hn) hl)) (trans (in_news (beyond A (y ∷ names v)) (in_par rfl (in_box f))) e))
  box_out_rise {y = y} {v = v} {t = t} (free {P' = P1} x hx k j d f) e =
      Struct (Res1 x (fn_box A b n P hn h_p) hx refl (Box1 (in_more A x n hn) d))
      (trans (symm (join_in A (y ∷ names v) x (par (out t y (received_child n) v) (box b n P1)) hx k)) (trans (in_news (beyond A (y ∷ names v)) (in_par rfl (in_box f))) e))

  box_out_inside : {S : Proc M []} {w : Participants M} → NewInv A P S tau w → box b n S ≋ R → Step A (new (box b (inr n) P)) tau w R
  unfolding ren
  box_out_inside (keep {P' = P1} x hx hl d f) e = Struct (Res1 x (fn_box A b n P hn h_p) hx refl (Box3 (in_more A x n hn) d)) (trans (extrude_box x b n P1 (apart A x n hx hn)) (trans (in_box f) e))

  box_out : {l : Label} {w : Participants M} → BoxInv A b n (new P) R l w → Step A (new (box b (inr n) P)) l w R
  unfolding ren AllN
  box_out (rise d e) = box_out_rise (invert d) e
  box_out (enter {x = y} {v = v} {t = t} e) =
      let c = fresh (A ++ (y ∷ n ∷ names v)) in
      let hx = out_left c.0 A (y ∷ n ∷ names v) c.1 in
      let hl = out_right c.0 A (y ∷ n ∷ names v) c.1 in
      Struct (Res1 c.0 (fn_box A b n P hn h_p) hx hl (Box2 (in_more A c.0 n hn, opened_fn A P c.0 h_p)))
      (trans (enter_out A b t n c.0 y v P (apart A c.0 n hx hn) (out_data c.0 y (received_child n) v hl) hx h_p) e)
  box_out (inside d e) = box_out_inside (invert d) e

pub does_new_box : {M : Type 0} (b : M) (n : ℕ) (P : Proc M (var ∷ [])) → Does (new (box b (inr n) P)) (box b n (new P))
unfolding AllN
does_new_box b n P A l w R d = box_in (step_source d).0 (step_source d).1 (invert d)

pub does_box_new : {M : Type 0} (b : M) (n : ℕ) (P : Proc M (var ∷ [])) → Does (box b n (new P)) (new (box b (inr n) P))
unfolding AllN
does_box_new b n P A l w R d = box_out (step_source d).0 (step_source d).1 (invert d)

-- (ν x)(P | Q) and P | (ν x)Q
comp_names : (g : Tag ℕ) → tnames (comp g) ≡ tnames g
comp_names (plain within) = refl
comp_names (plain parent) = refl
comp_names (plain (child n)) = refl
comp_names received_parent = refl
comp_names (received_child n) = refl

opened_out : {M : Type 0} (P : Proc M []) (x : ℕ) → opened (ren {r = var ∷ []} P inr) x ≡ P
opened_out P x = ren_ren {q = []} (var ∷ []) P inr (name_or x) ∙ ren_id P

comm_out : {M : Type 0} (A L : List ℕ) (x : ℕ) (P Q : Proc M []) → Fresh x P → Out∉ L x → restrict (beyond A L) (par P (new (closed x Q))) ≋ new (closed x (restrict (beyond (x ∷ A) L) (par P Q)))
comm_out A L x P Q fr e = trans (in_news (beyond A L) (symm (extrude_par x P Q fr))) (join_out A L x (par P Q) e)

par_new_out : {M : Type 0} (A : List ℕ) (x : ℕ) (P : Proc M []) (Q : Proc M (var ∷ [])) → Fresh x P → Out∉ A x → Fn⊆ (new Q) A → new (closed x (par P (opened Q x))) ≋ par P (new Q)
par_new_out A x P Q fr hx h = subst (λ X. new (closed x (par P (opened Q x))) ≋ par P (new X)) (close_open A Q x hx h) (extrude_par x P (opened Q x) fr)

-- what P receives: the channel and the tag let the binder open
movable_data : (x y : ℕ) (o : Tag ℕ) (v : Val ℕ) → In (movable y o v) x → T (mem x (y ∷ names v))
movable_data x y o v h = go (mv o) h
  where
    go : (b : Bool) → T (mem x (cond b (y ∷ names v) (names v))) → T (mem x (y ∷ names v))
    go true k = k
    go false k = or_right (eqb x y) (mem x (names v)) k

not_first : (x y : ℕ) (l : List ℕ) → eqb x y ≡ false → T (mem x (y ∷ l)) → T (mem x l)
not_first x y l e h = ⊎_elim (λ a. absurd (no_T (eqb x y) e a)) (λ b. b) (or_cases (eqb x y) (mem x l) h)

asked_movable : (A : List ℕ) (x y : ℕ) (g : Tag ℕ) (v : Val ℕ) → Out∉ A x → Asked A (recv y g v) → T (mem x (y ∷ names v)) → In (movable y (comp g) v) x
asked_movable A x y (plain within) v hx a h = not_first x y (names v) (apart A x y hx a.0) h
asked_movable A x y (plain parent) v hx a h = not_first x y (names v) (apart A x y hx a.0) h
asked_movable A x y (plain (child n)) v hx a h = not_first x y (names v) (apart A x y hx a.0) h
asked_movable A x y received_parent v hx a h = absurd a
asked_movable A x y (received_child n) v hx a h = h

asked_fixed : (A : List ℕ) (x y : ℕ) (g : Tag ℕ) (v : Val ℕ) → Out∉ A x → Asked A (recv y g v) → Out∉ (fixed y (comp g)) x
asked_fixed A x y (plain within) v hx a = or_both (eqb x y) false (apart A x y hx a.0) refl
asked_fixed A x y (plain parent) v hx a = or_both (eqb x y) false (apart A x y hx a.0) refl
asked_fixed A x y (plain (child n)) v hx a = or_both (eqb x y) (eqb x n || false) (apart A x y hx a.0) (or_both (eqb x n) false (apart A x n hx a.1) refl)
asked_fixed A x y received_parent v hx a = absurd a
asked_fixed A x y (received_child n) v hx a = or_both (eqb x n) false (apart A x n hx a) refl

asked_out : (A : List ℕ) (x y : ℕ) (g : Tag ℕ) (v : Val ℕ) → Out∉ A x → Asked A (recv y g v) → Out∉ (y ∷ names v) x → Out∉ (y ∷ tnames g ++ names v) x
asked_out A x y (plain within) v hx a h = h
asked_out A x y (plain parent) v hx a h = h
asked_out A x y (plain (child n)) v hx a h = or_both (eqb x y) (eqb x n || mem x (names v)) (or_false_l (eqb x y) (mem x (names v)) h) (or_both (eqb x n) (mem x (names v)) (apart A x n hx a.1) (or_false_r (eqb x y) (mem x (names v)) h))
asked_out A x y received_parent v hx a h = h
asked_out A x y (received_child n) v hx a h = or_both (eqb x y) (eqb x n || mem x (names v)) (or_false_l (eqb x y) (mem x (names v)) h) (or_both (eqb x n) (mem x (names v)) (apart A x n hx a) (or_false_r (eqb x y) (mem x (names v)) h))

other_tag : (x y : ℕ) (g : Tag ℕ) (v : Val ℕ) → Out∉ (y ∷ tnames g ++ names v) x → Out∉ (y ∷ tnames (comp g) ++ names v) x
other_tag x y g v h = subst (λ k. Out∉ (y ∷ k ++ names v) x) (sym (comp_names g)) h

this_tag : (x y : ℕ) (g : Tag ℕ) (v : Val ℕ) → Out∉ (y ∷ tnames (comp g) ++ names v) x → Out∉ (y ∷ tnames g ++ names v) x
this_tag x y g v h = subst (λ k. Out∉ (y ∷ k ++ names v) x) (comp_names g) h

opened_par : {M : Type 0} (P : Proc M []) (Q : Proc M (var ∷ [])) (x : ℕ) → opened (par (ren {r = var ∷ []} P inr) Q) x ≡ par P (opened Q x)
unfolding ren
opened_par P Q x = ap (λ X. par X (opened Q x)) (opened_out P x)

lowered : {M : Type 0} {A : List ℕ} {S : Proc M []} {l : Label} {w : Participants M} (P : Proc M []) (Q : Proc M (var ∷ [])) (x : ℕ) → Step A (opened (par (ren {r = var ∷ []} P inr) Q) x) l w S → Step A (par P (opened Q x)) l w S
lowered {A = A} {S = S} {l = l} {w = w} P Q x d = subst (λ X. Step A X l w S) (opened_par P Q x) d

raised : {M : Type 0} {A : List ℕ} {S : Proc M []} {l : Label} {w : Participants M} (P : Proc M []) (Q : Proc M (var ∷ [])) (x : ℕ) → Step A (par P (opened Q x)) l w S → Step A (opened (par (ren {r = var ∷ []} P inr) Q) x) l w S
raised {A = A} {S = S} {l = l} {w = w} P Q x d = subst (λ X. Step A X l w S) (sym (opened_par P Q x)) d

module _ {M : Type 0} {A : List ℕ} {P : Proc M []} {Q : Proc M (var ∷ [])} {R : Proc M []} (h_p : Fn⊆ P A) (h_q : Fn⊆ (new Q) A) where
  push_keep : {S : Proc M []} {l : Label} {w : Participants M} (x : ℕ) → Out∉ A x → Out∉ (lnames l) x → ParInv (x ∷ A) P (opened Q x) S l w → new (closed x S) ≋ R → Step A (par P (new Q)) l w R
  push_keep x hx hl (left {P' = P1} d f) e =
      Struct (ParL h_q (strengthen d A (in_more A x) h_p)) (trans (symm (par_new_out A x P1 Q (fresh_after x hx hl (strengthen d A (in_more A x) h_p)) hx h_q)) (again x f e))
  push_keep x hx hl (right {Q' = Q1} d f) e = Struct (ParR h_p (Res1 x h_q hx hl d)) (trans (symm (extrude_par x P Q1 (fresh_of A x P hx h_p))) (again x f e))
  push_keep x hx hl (comm_l {x = y} {g = g} {v = v} {t = t} {u = u} {P' = P1} {Q' = Q1} d d' f) e =
      Struct (CommL d0 (Res1 x h_q hx (this_tag x y g v xo) d')) (trans (comm_out A (y ∷ names v) x P1 Q1 (fresh_after x hx xo d0) (out_data x y (comp g) v xo)) (again x f e))
    where
      d0 : Step A P (send y (comp g) v) (lone t) P1
      d0 = strengthen d A (in_more A x) h_p

      xo : Out∉ (y ∷ tnames (comp g) ++ names v) x
      xo = bool_no (mem x (y ∷ tnames (comp g) ++ names v)) (λ k. no_T (mem x A) hx (send_names d A h_p x k (here A x)))
  push_keep x hx hl (comm_r {x = y} {g = g} {v = v} {t = t} {u = u} {P' = P1} {Q' = Q1} d d' f) e = go (mem x (y ∷ names v)) refl
    where
      d0 : Step A P (recv y g v) (joint t u) P1
      d0 = strengthen d A (in_more A x) h_p

      a : Asked A (recv y g v)
      a = recv_asked d A h_p

      go : (c : Bool) → mem x (y ∷ names v) ≡ c → Step A (par P (new Q)) tau (joint t u) R
      go true k = Struct (CommR d0 (Res2 x h_q hx (asked_movable A x y g v hx a (subst (λ c. T c) (sym k) tt)) (asked_fixed A x y g v hx a) d'))
          (trans (join_in A (y ∷ names v) x (par P1 Q1) hx (subst (λ c. T c) (sym k) tt)) (again x f e))
      go false k = Struct (CommR d0 (Res1 x h_q hx (other_tag x y g v (asked_out A x y g v hx a k)) d'))
          (trans (comm_out A (y ∷ names v) x P1 Q1 (fresh_after x hx (asked_out A x y g v hx a k) d0) k) (again x f e))

  push_free : {S : Proc M []} {y : ℕ} {o : Tag ℕ} {v : Val ℕ} {w : Participants M} (x : ℕ) → Out∉ A x → In (movable y o v) x → Out∉ (fixed y o) x
      → ParInv (x ∷ A) P (opened Q x) S (send y o v) w → S ≋ R → Step A (par P (new Q)) (send y o v) w R
  push_free {y = y} {o = o} {v = v} x hx k j (left d f) e = absurd (no_T (mem x A) hx (send_names d A h_p x (movable_in x y o v k) (here A x)))
  push_free x hx k j (right d f) e = Struct (ParR h_p (Res2 x h_q hx k j d)) (trans f e)

  push : {l : Label} {w : Participants M} → NewInv A (par (ren {r = var ∷ []} P inr) Q) R l w → Step A (par P (new Q)) l w R
  push (keep x hx hl d e) = push_keep x hx hl (invert (lowered P Q x d)) e
  push (free x hx k j d e) = push_free x hx k j (invert (lowered P Q x d)) e

module _ {M : Type 0} {A : List ℕ} {P : Proc M []} {Q : Proc M (var ∷ [])} {R : Proc M []} (h_p : Fn⊆ P A) (h_q : Fn⊆ (new Q) A) (h_n : Fn⊆ (new (par (ren {r = var ∷ []} P inr) Q)) A) where
  pull_right : {S : Proc M []} {l : Label} {w : Participants M} → NewInv A Q S l w → par P S ≋ R → Step A (new (par (ren {r = var ∷ []} P inr) Q)) l w R
  pull_right (keep {P' = Q1} x hx hl d f) e = Struct (Res1 x h_n hx hl (raised P Q x (ParR (fn_more A x P h_p) d))) (trans (extrude_par x P Q1 (fresh_of A x P hx h_p)) (trans (in_par rfl f) e))
  pull_right (free x hx k j d f) e = Struct (Res2 x h_n hx k j (raised P Q x (ParR (fn_more A x P h_p) d))) (trans (in_par rfl f) e)

  pull_recv : {P1 S : Proc M []} {y : ℕ} {v : Val ℕ} {t u : M} (g : Tag ℕ) → Step A P (send y (comp g) v) (lone t) P1 → NewInv A Q S (recv y g v) (joint t u)
      → restrict (beyond A (y ∷ names v)) (par P1 S) ≋ R → Step A (new (par (ren {r = var ∷ []} P inr) Q)) tau (joint t u) R
  pull_recv {P1 = P1} {y = y} {v = v} g d (keep {P' = Q1} x hx hl d' f) e =
      Struct (Res1 x h_n hx refl (raised P Q x (CommL (weaken x hx (other_tag x y g v hl) d) d')))
      (trans (symm (comm_out A (y ∷ names v) x P1 Q1 (fresh_after x hx (other_tag x y g v hl) d) (out_data x y g v hl))) (trans (in_news (beyond A (y ∷ names v)) (in_par rfl f)) e))

  pull_send : {P1 S : Proc M []} {y : ℕ} {v : Val ℕ} {t u : M} (g : Tag ℕ) → Step A P (recv y g v) (joint t u) P1 → NewInv A Q S (send y (comp g) v) (lone t)
      → restrict (beyond A (y ∷ names v)) (par P1 S) ≋ R → Step A (new (par (ren {r = var ∷ []} P inr) Q)) tau (joint t u) R
  pull_send {P1 = P1} {y = y} {v = v} g d (keep {P' = Q1} x hx hl d' f) e =
      Struct (Res1 x h_n hx refl (raised P Q x (CommR (weaken x hx (this_tag x y g v hl) d) d')))
      (trans (symm (comm_out A (y ∷ names v) x P1 Q1 (fresh_after x hx (this_tag x y g v hl) d) (out_data x y (comp g) v hl))) (trans (in_news (beyond A (y ∷ names v)) (in_par rfl f)) e))
  pull_send {P1 = P1} {y = y} {v = v} g d (free {P' = Q1} x hx k j d' f) e =
      Struct (Res1 x h_n hx refl (raised P Q x (CommR (weaken_recv d x tt (data_of y g v x (movable_data x y (comp g) v k))) d')))
      (trans (symm (join_in A (y ∷ names v) x (par P1 Q1) hx (movable_data x y (comp g) v k))) (trans (in_news (beyond A (y ∷ names v)) (in_par rfl f)) e))

  pull : {l : Label} {w : Participants M} → ParInv A P (new Q) R l w → Step A (new (par (ren {r = var ∷ []} P inr) Q)) l w R
  pull (left {l = l} {P' = P1} d e) =
      let c = fresh (A ++ lnames l) in
      let hx = out_left c.0 A (lnames l) c.1 in
      let hl = out_right c.0 A (lnames l) c.1 in
      Struct (Res1 c.0 h_n hx hl (raised P Q c.0 (ParL (opened_fn A Q c.0 h_q) (weaken c.0 hx hl d)))) (trans (par_new_out A c.0 P1 Q (fresh_after c.0 hx hl d) hx h_q) e)
  pull (right d e) = pull_right (invert d) e
  pull (comm_l {g = g} d d' e) = pull_recv g d (invert d') e
  pull (comm_r {g = g} d d' e) = pull_send g d (invert d') e

pub does_new_par : {M : Type 0} (P : Proc M []) (Q : Proc M (var ∷ [])) → Does (new (par (ren {r = var ∷ []} P inr) Q)) (par P (new Q))
unfolding AllN
does_new_par P Q A l w R d = let h = (cong_fn (new_par {P = P} {Q = Q}) (In A)).0 (step_source d) in push h.0 h.1 (invert d)

pub does_par_new : {M : Type 0} (P : Proc M []) (Q : Proc M (var ∷ [])) → Does (par P (new Q)) (new (par (ren {r = var ∷ []} P inr) Q))
unfolding AllN
does_par_new P Q A l w R d = let h = step_source d in pull h.0 h.1 ((cong_fn (new_par {P = P} {Q = Q}) (In A)).1 h) (invert d)

-- (ν x)(ν y)P and (ν y)(ν x)P
abbrev half : {M : Type 0} → Proc M (var ∷ var ∷ []) → ℕ → Proc M (var ∷ [])
half P x = ren {r = var ∷ []} P (under (name_or x))

half_half : {M : Type 0} (P : Proc M (var ∷ var ∷ [])) (x z : ℕ) → opened (half P x) z ≡ opened (half (ren {r = var ∷ var ∷ []} P swapped) z) x
half_half P x z = ren_ren {q = []} (var ∷ []) P (under (name_or x)) (name_or z)
    ∙ ap (λ h. ren {r = []} P h) (fun_ext (elim [ inl b ↦ refl | inr (inl c) ↦ refl | inr (inr n) ↦ refl ]))
    ∙ sym (ap (λ X. ren {r = []} X (name_or x)) (ren_ren {q = var ∷ []} (var ∷ var ∷ []) P swapped (under (name_or z))) ∙ ren_ren {q = []} (var ∷ []) P (λ a. under (name_or z) (swapped a)) (name_or x))

turned : {M : Type 0} {A : List ℕ} {S : Proc M []} {l : Label} {w : Participants M} (P : Proc M (var ∷ var ∷ [])) (x z : ℕ) → Step (z ∷ x ∷ A) (opened (half P x) z) l w S →
    Step (x ∷ z ∷ A) (opened (half (ren {r = var ∷ var ∷ []} P swapped) z) x) l w S
turned {A = A} {S = S} {l = l} {w = w} P x z d = subst (λ X. Step (x ∷ z ∷ A) X l w S) (half_half P x z) (known_swap d)

out_both : (A : List ℕ) (x z : ℕ) → Out∉ A x → Out∉ (x ∷ A) z → Out∉ (z ∷ A) x
out_both A x z hx hz = or_both (eqb x z) (mem x A) (eqb_sym x z ∙ or_false_l (eqb z x) (mem z A) hz) hx

module _ {M : Type 0} {A : List ℕ} (P : Proc M (var ∷ var ∷ [])) {R : Proc M []} (h_n : Fn⊆ (new (new (ren {r = var ∷ var ∷ []} P swapped))) A) where
  turn_keep : {S : Proc M []} {l : Label} {w : Participants M} (x : ℕ) → Out∉ A x → Out∉ (lnames l) x → NewInv (x ∷ A) (half P x) S l w → new (closed x S) ≋ R → Step A (new (new (ren {r = var ∷ var ∷ []} P swapped))) l w R
  unfolding ren
  turn_keep x hx hl (keep {P' = S1} z hz kz d f) e =
      Struct (Res1 z h_n (or_false_r (eqb z x) (mem z A) hz) kz (Res1 x (opened_fn A (new (ren {r = var ∷ var ∷ []} P swapped)) z h_n) (out_both A x z hx hz) hl (turned P x z d)))
      (trans (new_swap z x S1 (or_false_l (eqb z x) (mem z A) hz)) (again x f e))
  turn_keep x hx hl (free z hz k j d f) e =
      Struct (Res2 z h_n (or_false_r (eqb z x) (mem z A) hz) k j (Res1 x (opened_fn A (new (ren {r = var ∷ var ∷ []} P swapped)) z h_n) (out_both A x z hx hz) hl (turned P x z d))) (again x f e)

  turn_free : {S : Proc M []} {y : ℕ} {o : Tag ℕ} {v : Val ℕ} {w : Participants M} (x : ℕ) → Out∉ A x → In (movable y o v) x → Out∉ (fixed y o) x
      → NewInv (x ∷ A) (half P x) S (send y o v) w → S ≋ R → Step A (new (new (ren {r = var ∷ var ∷ []} P swapped))) (send y o v) w R
  unfolding ren
  turn_free x hx kx jx (keep z hz kz d f) e =
      Struct (Res1 z h_n (or_false_r (eqb z x) (mem z A) hz) kz (Res2 x (opened_fn A (new (ren {r = var ∷ var ∷ []} P swapped)) z h_n) (out_both A x z hx hz) kx jx (turned P x z d))) (trans f e)
  turn_free x hx kx jx (free z hz k j d f) e =
      Struct (Res2 z h_n (or_false_r (eqb z x) (mem z A) hz) k j (Res2 x (opened_fn A (new (ren {r = var ∷ var ∷ []} P swapped)) z h_n) (out_both A x z hx hz) kx jx (turned P x z d))) (trans f e)

  turn : {l : Label} {w : Participants M} → NewInv A (new P) R l w → Step A (new (new (ren {r = var ∷ var ∷ []} P swapped))) l w R
  unfolding ren
  turn (keep x hx hl d e) = turn_keep x hx hl (invert d) e
  turn (free x hx k j d e) = turn_free x hx k j (invert d) e

pub does_new_new : {M : Type 0} (P : Proc M (var ∷ var ∷ [])) → Does (new (new P)) (new (new (ren {r = var ∷ var ∷ []} P swapped)))
does_new_new P A l w R d = turn P ((cong_fn (new_new {P = P}) (In A)).0 (step_source d)) (invert d)

swapped_twice : {M : Type 0} (P : Proc M (var ∷ var ∷ [])) → ren {r = var ∷ var ∷ []} (ren {r = var ∷ var ∷ []} P swapped) swapped ≡ P
swapped_twice P = ren_ren {q = var ∷ var ∷ []} (var ∷ var ∷ []) P swapped swapped
    ∙ ap (λ h. ren {r = var ∷ var ∷ []} P h) (fun_ext (elim [ inl b ↦ refl | inr (inl c) ↦ refl | inr (inr n) ↦ refl ])) ∙ ren_id P

pub does_new_new_back : {M : Type 0} (P : Proc M (var ∷ var ∷ [])) → Does (new (new (ren {r = var ∷ var ∷ []} P swapped))) (new (new P))
does_new_new_back P = subst (λ X. Does (new (new (ren {r = var ∷ var ∷ []} P swapped))) (new (new X))) (swapped_twice P) (does_new_new (ren {r = var ∷ var ∷ []} P swapped))

-- All of it, under any renaming of the free names to numbers: what a binder binds is opened with a number
abbrev pub Same : {M : Type 0} → Proc M [] → Proc M [] → Type 0
Same P Q = Does P Q × Does Q P

under_opened : {M : Type 0} {s : Scope} (P : Proc M (var ∷ s)) (f : Name s → ℕ) (x : ℕ) → opened (ren {r = var ∷ []} P (under f)) x ≡ ren {r = []} P (λ y. name_or x (under f y))
under_opened P f x = ren_ren {q = []} (var ∷ []) P (under f) (name_or x)

opened_same : {M : Type 0} {s : Scope} (P Q : Proc M (var ∷ s)) (f : Name s → ℕ) → ((x : ℕ) → Same (ren {r = []} P (λ y. name_or x (under f y))) (ren {r = []} Q (λ y. name_or x (under f y))))
    → (x : ℕ) → Same (opened (ren {r = var ∷ []} P (under f)) x) (opened (ren {r = var ∷ []} Q (under f)) x)
opened_same P Q f ih x = subst₂ (λ X Y. Same X Y) (sym (under_opened P f x)) (sym (under_opened Q f x)) (ih x)

pub cong_does : {M : Type 0} {s : Scope} {P Q : Proc M s} → Cong s P Q → (f : Name s → ℕ) → Same (ren {r = []} P f) (ren {r = []} Q f)
unfolding ren
cong_does (par_nil {P = P}) f = (does_nil_off (ren {r = []} P f), does_nil_on (ren {r = []} P f))
cong_does (par_comm {P = P} {Q = Q}) f = (does_comm (ren {r = []} P f) (ren {r = []} Q f), does_comm (ren {r = []} Q f) (ren {r = []} P f))
cong_does (par_assoc {P = P} {Q = Q} {R = R}) f = (does_assoc (ren {r = []} P f) (ren {r = []} Q f) (ren {r = []} R f), does_assoc_back (ren {r = []} P f) (ren {r = []} Q f) (ren {r = []} R f))
cong_does {M} {s} (new_new {P = P}) f =
    subst (λ X. Same (new (new (ren {r = var ∷ var ∷ []} P (under (under f))))) (new (new X)))
    (ren_ren {q = var ∷ var ∷ []} (var ∷ var ∷ []) P (under (under f)) swapped ∙ ap (λ h. ren {r = var ∷ var ∷ []} P h) (sym (swap_under f)) ∙ sym (ren_ren {q = var ∷ var ∷ []} (var ∷ var ∷ s) P swapped (under (under f))))
    (does_new_new (ren {r = var ∷ var ∷ []} P (under (under f))), does_new_new_back (ren {r = var ∷ var ∷ []} P (under (under f))))
cong_does {M} {s} (new_par {P = P} {Q = Q}) f =
    subst (λ X. Same (new (par X (ren {r = var ∷ []} Q (under f)))) (par (ren {r = []} P f) (new (ren {r = var ∷ []} Q (under f)))))
    (ren_ren {q = var ∷ []} [] P f inr ∙ sym (ren_ren {q = var ∷ []} (var ∷ s) P inr (under f)))
    (does_new_par (ren {r = []} P f) (ren {r = var ∷ []} Q (under f)), does_par_new (ren {r = []} P f) (ren {r = var ∷ []} Q (under f)))
cong_does (new_box {t = t} {n = n} {P = P}) f = (does_new_box t (f n) (ren {r = var ∷ []} P (under f)), does_box_new t (f n) (ren {r = var ∷ []} P (under f)))
cong_does (rfl {P = P}) f = (does_same (ren {r = []} P f), does_same (ren {r = []} P f))
cong_does (symm d) f = let r = cong_does d f in (r.1, r.0)
cong_does (trans {P = P} {Q = Q} {R = R} d e) f =
    let r = cong_does d f in let q = cong_does e f in
    (does_then (ren {r = []} P f) (ren {r = []} Q f) (ren {r = []} R f) r.0 q.0, does_then (ren {r = []} R f) (ren {r = []} Q f) (ren {r = []} P f) q.1 r.1)
cong_does (in_par {P = P} {P' = P'} {Q = Q} {Q' = Q'} d e) f =
    let r = cong_does d f in let q = cong_does e f in let c = cong_ren {r = []} d f in let k = cong_ren {r = []} e f in
    (does_par (ren {r = []} P f) (ren {r = []} P' f) (ren {r = []} Q f) (ren {r = []} Q' f) c k r.0 q.0, does_par (ren {r = []} P' f) (ren {r = []} P f) (ren {r = []} Q' f) (ren {r = []} Q f) (symm c) (symm k) r.1 q.1)
cong_does (in_box {t = t} {n = n} {P = P} {P' = P'} d) f =
    let r = cong_does d f in let c = cong_ren {r = []} d f in
    (does_box t (f n) (ren {r = []} P f) (ren {r = []} P' f) c r.0, does_box t (f n) (ren {r = []} P' f) (ren {r = []} P f) (symm c) r.1)
cong_does {M} {s} (in_new {P = P} {P' = P'} d) f =
    let c = cong_ren {r = var ∷ []} d (under f) in
    let ih = opened_same P P' f (λ x. cong_does d (λ y. name_or x (under f y))) in
    (does_new (ren {r = var ∷ []} P (under f)) (ren {r = var ∷ []} P' (under f)) (in_new c) (λ x. (ih x).0), does_new (ren {r = var ∷ []} P' (under f)) (ren {r = var ∷ []} P (under f)) (in_new (symm c)) (λ x. (ih x).1))
cong_does (in_inp {m = m} {t = t} {x = x} {i = i} {p = p} {P = P} {P' = P'} d) f =
    let c = cong_ren {r = p ∷ []} d (under f) in
    (does_inp m t (f x) (iren i f) p (ren {r = p ∷ []} P (under f)) (ren {r = p ∷ []} P' (under f)) c, does_inp m t (f x) (iren i f) p (ren {r = p ∷ []} P' (under f)) (ren {r = p ∷ []} P (under f)) (symm c))

-- Congruent processes have the very same transitions
pub same_steps : {M : Type 0} {A : List ℕ} {P Q R : Proc M []} {l : Label} {w : Participants M} → P ≋ Q → Step A P l w R → Step A Q l w R
same_steps {A = A} {P = P} {Q = Q} {R = R} {l = l} {w = w} e d = subst₂ (λ X Y. Does X Y) (ren_id P) (ren_id Q) (cong_does e (λ x. x)).0 A l w R d

pub bisimulation : Bisimulation
unfolding Bisimulation
bisimulation M P Q e = (λ A l w R d. (R, same_steps e d, rfl), λ A l w R d. (R, same_steps (symm e) d, rfl))
