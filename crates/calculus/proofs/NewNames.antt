-- Directionality of the pipeline W2 for new names, by the invariant of Walls: side 1 is low, side 2 is high, and so is the name that is followed.
use mathlib.Core.Path.{◌≡◌, refl, sym, ◌∙◌, ap, subst}
use mathlib.Core.Logic.{⊎_elim}
use mathlib.Core.List.{List, [], ◌∷◌, ◌++◌}
use mathlib.Core.Bool.{Bool, true, false, cond, ◌||◌}
use Prim.Native.Nat.{ℕ}
use lib.Dec.{eqb, T, eqb→eq, eqb_refl}
use Rattle.calculus.specs.Syntax.{Val, within, parent, child, plain, received_parent, received_child, Proc, AllN}
use Rattle.calculus.specs.Transitions.{Label, tau, send, recv, In, mem, Fn⊆, Out∉, names, lnames}
use Rattle.calculus.specs.Marks.{Published, Seq, ended, first, grown_by}
use Rattle.calculus.specs.Wrappers.{env_in, env_out}
use Rattle.calculus.specs.Purity.{EachLabel}
use Rattle.calculus.specs.NewNames.{heard_on, sent_on, all_names, NewNameDirectional, KnownNameDirectional}
use Rattle.calculus.proofs.Renaming.{AllN-map}
use Rattle.calculus.proofs.Parallels.{apart, T_true}
use Rattle.calculus.proofs.FreeNames.{no_T, eqb-true, eqb_sym, or_cases, or_left, or_right, or_false_r, mem_cases, mem_left, mem_right, step_source}
use Rattle.calculus.proofs.Members.{SameMembers, step_members}
use Rattle.calculus.proofs.KnownNames.{bool_no, bool_same, out_left, out_right, in_more, weaken_recv}
use Rattle.calculus.proofs.Walls.{Level, low, high, Role, own, inlet, outlet, other, Guest, Guard, given, given_off, given_on, Walled, walled_agree, Speaks, Told, keeps_all, each_map}
use Rattle.calculus.proofs.Purity.{role, sided, ins, outs, side_level, roles_guest, not_own, roles_guard, told_all, pipeline_walled}

-- SEQUENCES

-- taken apart at the first label
abbrev SeqInv : List ℕ → Proc (Unit {0}) [] → List Label → Proc (Unit {0}) [] → Type 0
SeqInv A P [] Q = P ≡ Q
SeqInv A P (l ∷ ls) Q = (R : Proc (Unit {0}) []) × Published A P l R × Seq (lnames l ++ A) R ls Q

seq_inv : {A : List ℕ} {P Q : Proc (Unit {0}) []} {ls : List Label} → Seq A P ls Q → SeqInv A P ls Q
seq_inv ended = refl
seq_inv (first {Q = R} p q) = (R, p, q)

-- and at any
split : {A : List ℕ} {P Q : Proc (Unit {0}) []} (ls ks : List Label) → Seq A P (ls ++ ks) Q → (R : Proc (Unit {0}) []) × Seq A P ls R × Seq (grown_by ls A) R ks Q
split {P = P} [] ks q = (P, ended, q)
split {A = A} {P = P} {Q = Q} (l ∷ ls) ks q =
    let i = seq_inv q in
    let s = split {A = lnames l ++ A} {P = i.0} {Q = Q} ls ks i.2 in
    (s.0, first i.1 s.1, s.2)

source : {A : List ℕ} {P Q : Proc (Unit {0}) []} (ls ks : List Label) (l : Label) → Seq A P (ls ++ l ∷ ks) Q → Fn⊆ P A
source [] ks l q = step_source (seq_inv q).1.1
source (k ∷ ls) ks l q = step_source (seq_inv q).1.1

-- what A has grown to has no other names
out_grown : (ls : List Label) (A : List ℕ) (x : ℕ) → Out∉ A x → Out∉ (all_names ls) x → Out∉ (grown_by ls A) x
out_grown [] A x h k = h
out_grown (l ∷ ls) A x h k = out_grown ls (lnames l ++ A) x
    (bool_no (mem x (lnames l ++ A)) (λ i. ⊎_elim (no_T (mem x (lnames l)) (out_left x (lnames l) (all_names ls) k)) (no_T (mem x A) h) (mem_cases x (lnames l) A i)))
    (out_right x (lnames l) (all_names ls) k)

-- the members of A decide
same_behind : (L A B : List ℕ) → SameMembers A B → SameMembers (L ++ A) (L ++ B)
same_behind [] A B h z = h z
same_behind (x ∷ L) A B h z = ap (λ (t : Bool). eqb z x || t) (same_behind L A B h z)

seq_members : {A : List ℕ} {P Q : Proc (Unit {0}) []} {ls : List Label} → Seq A P ls Q → (B : List ℕ) → SameMembers A B → Seq B P ls Q
seq_members ended B h = ended
seq_members {A} (first {l = l} p q) B h = first (p.0, step_members p.1 B h) (seq_members q (lnames l ++ B) (same_behind (lnames l) A B h))

-- an input of a name may as well be taken with the name known
named_twice : (L A : List ℕ) (x : ℕ) → In L x → SameMembers (L ++ A) (L ++ x ∷ A)
named_twice L A x h z = bool_same (mem z (L ++ A)) (mem z (L ++ x ∷ A))
    (λ i. ⊎_elim (mem_left z L (x ∷ A)) (λ j. mem_right z L (x ∷ A) (in_more A x z j)) (mem_cases z L A i))
    (λ i. ⊎_elim (mem_left z L A) (λ j. ⊎_elim (λ e. mem_left z L A (subst (In L) (sym (eqb→eq z x e)) h)) (mem_right z L A) (or_cases (eqb z x) (mem z A) j)) (mem_cases z L (x ∷ A) i))

take_known : {A : List ℕ} {P Q : Proc (Unit {0}) []} (c : ℕ) (v : Val ℕ) (ls : List Label) (x : ℕ) → In (names v) x → Seq A P (recv c (plain parent) v ∷ ls) Q → Seq (x ∷ A) P (recv c (plain parent) v ∷ ls) Q
take_known {A} c v ls x h q =
    let i = seq_inv q in
    let k = or_right (eqb x c) (mem x (names v)) h in
    first (i.1.0, weaken_recv i.1.1 x tt k) (seq_members i.2 (c ∷ names v ++ x ∷ A) (named_twice (c ∷ names v) A x k))

-- one label more
each_last : (F : Label → Type 0) (ls : List Label) (l : Label) → EachLabel F (ls ++ l ∷ []) → F l
each_last F [] l h = h.0
each_last F (k ∷ ls) l h = each_last F ls l h.1

each_and : (F : Label → Type 0) (ls : List Label) (l : Label) → EachLabel F ls → F l → EachLabel F (ls ++ l ∷ [])
each_and F [] l h k = (k, tt)
each_and F (m ∷ ls) l h k = (h.0, each_and F ls l h.1 k)

-- in1 is the one low inlet
only_in1 : (y : ℕ) → sided y ≡ inlet low → T (eqb y (env_in 1))
only_in1 y = go (eqb y (env_in 1)) (eqb y (env_in 2)) (mem y outs)
  where
    go : (a b o : Bool) → role (a || (b || false)) o (cond (b || (eqb y (env_out 2) || false)) high low) ≡ inlet low → T a
    go true b o e = tt
    go false true o e = no_T true (cc) tt
    go false false true e = no_T true (cc) tt
    go false false false e = no_T true (cc) tt

-- A NAME THAT IS FOLLOWED: high, whatever it was before
module _ (x : ℕ) where
  abbrev followed : ℕ → Role
  followed = given x (other high) sided

  -- it does not come in on in1, and does not go out on out1
  abbrev NotIn1 : Label → Type 0
  NotIn1 l = Out∉ (heard_on (env_in 1) l) x

  abbrev NotOut1 : Label → Type 0
  NotOut1 l = Out∉ (sent_on (env_out 1) l) x

  as_sided : (z : ℕ) → eqb x z ≡ false → sided z ≡ followed z
  as_sided z e = sym (given_off x (other high) sided z e)

  -- x is high, and any other name has the role that it had
  cases : (K : Role → Type 0) (z : ℕ) → K (other high) → (eqb x z ≡ false → K (sided z)) → K (followed z)
  cases K z h k = go (eqb x z) refl
    where
      go : (b : Bool) → eqb x z ≡ b → K (followed z)
      go true e = subst K (sym (given_on x (other high) sided z e)) h
      go false e = subst K (as_sided z e) (k e)

  never_own : (c : Level) (z : ℕ) → followed z ≡ own c → ⊥
  never_own c z = cases (λ ρ. ρ ≡ own c → ⊥) z (λ e. no_T true (cc) tt) (λ e. not_own ins outs side_level z)

  -- what comes in on in1 has not the name
  told_followed : (l : Label) → NotIn1 l → Told followed l
  told_followed tau h = tt
  told_followed (send y o v) h = tt
  told_followed (recv y (plain within) v) h = λ c k. absurd k
  told_followed (recv y (plain parent) v) h = elim [ low ↦ at_low | high ↦ λ k. (guest-high y, λ z j. guest-high z) ]
    where
      guest-high : (z : ℕ) → Guest high (followed z)
      guest-high z = cases (Guest high) z tt (λ e. roles_guest ins outs side_level high z)

      on_in1 : followed y ≡ inlet low → T (eqb y (env_in 1))
      on_in1 = cases (λ ρ. ρ ≡ inlet low → T (eqb y (env_in 1))) y (λ e. absurd (no_T true (cc) tt)) (λ e. only_in1 y)

      at_low : followed y ≡ inlet low → Guest low (followed y) × ((z : ℕ) → T (mem z (names v)) → Guest low (followed z))
      at_low k =
          let n : Out∉ (names v) x = subst (λ (b : Bool). mem x (cond b (names v) []) ≡ false) (T_true (eqb y (env_in 1)) (on_in1 k)) h in
          (subst (Guest low) (sym k) tt, λ z j. subst (Guest low) (as_sided z (apart (names v) x z n j)) (roles_guest ins outs side_level low z))
  told_followed (recv y (plain (child n)) v) h = λ c k. absurd (never_own c n k)
  told_followed (recv y received_parent v) h = λ c k. absurd k
  told_followed (recv y (received_child n) v) h = λ c k. absurd (never_own c n k)

  -- what goes out on out1 is low, and the name is not
  low_sent : (l : Label) → Speaks followed l → NotOut1 l
  low_sent tau h = refl
  low_sent (send y (plain within) v) h = refl
  low_sent (send y (plain parent) v) h = go (eqb y (env_out 1)) refl
    where
      low_only : y ≡ env_out 1 → h.0 ≡ low
      low_only e = cases (λ ρ. ρ ≡ outlet h.0 → h.0 ≡ low) y (λ k. cc) (λ n k. let q : outlet low ≡ outlet h.0 = sym (ap sided e) ∙ k in cc) h.1.0

      go : (b : Bool) → eqb y (env_out 1) ≡ b → Out∉ (cond b (names v) []) x
      go true e = bool_no (mem x (names v)) (λ k. subst (Guest low) (given_on x (other high) sided x (T_true (eqb x x) (eqb_refl x))) (subst (λ c. Guest c (followed x)) (low_only (eqb-true e)) (h.2 x k)))
      go false e = refl
  low_sent (send y (plain (child n)) v) h = refl
  low_sent (send y received_parent v) h = refl
  low_sent (send y (received_child n) v) h = refl
  low_sent (recv y o v) h = refl

  -- a name that is known, and is not free in a process that is walled
  directional : {A : List ℕ} {P Q : Proc (Unit {0}) []} {ls : List Label} → In A x → Guard A sided → Walled P sided → AllN P (λ z. eqb x z ≡ false) → Seq A P ls Q → EachLabel NotIn1 ls → EachLabel NotOut1 ls
  directional {A} {P} {ls = ls} i g w n q h =
      let g' : Guard A followed = λ z j. sym (as_sided z (eqb_sym x z ∙ apart A z x j i)) ∙ g z j in
      let w' = walled_agree P sided followed (AllN-map P as_sided n) w in
      each_map low_sent ls (keeps_all q followed g' w' (each_map told_followed ls h)).0

pub known_name_directional : KnownNameDirectional
unfolding KnownNameDirectional
known_name_directional P1 P2 Q A [] x q i n h = tt
known_name_directional P1 P2 Q A (l ∷ ls) x q i n h =
    let s = pipeline_walled P1 P2 A (source [] ls l q) in
    directional x i (roles_guard ins outs side_level A s.0 s.1) s.2 n q h

-- the name is followed from the input on; up to there it is not free in the process, since it is new
pub new_name_directional : NewNameDirectional
unfolding NewNameDirectional
new_name_directional P1 P2 Q A ls ls' u u' x q i new-to-A new-to-ls h =
    let input = recv (env_in 2) (plain parent) u in
    let output = send (env_out 1) (plain parent) u' in
    let s = pipeline_walled P1 P2 A (source ls (ls' ++ output ∷ []) input q) in
    let a = split ls (input ∷ (ls' ++ output ∷ [])) q in
    let B = grown_by ls A in
    let k = keeps_all a.1 sided (roles_guard ins outs side_level A s.0 s.1) s.2 (told_all ins outs side_level ls) in
    let new-to-B = out_grown ls A x new-to-A new-to-ls in
    let n = AllN-map a.0 (λ z j. apart B x z new-to-B j) (source [] (ls' ++ output ∷ []) input a.2) in
    let g : Guard (x ∷ B) sided = λ z j. k.2 z (or_false_r (eqb z x) (mem z B) j) in
    let t = take_known (env_in 2) u (ls' ++ output ∷ []) x i a.2 in
    each_last (NotOut1 x) ls' output (directional x (or_left (eqb x x) (mem x B) (eqb_refl x)) g k.1 n t (refl, each_and (NotIn1 x) ls' output h refl)).1
