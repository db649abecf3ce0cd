-- Stranded messages stay, in the order in which they arrived.
use mathlib.Core.Path.{◌≡◌, refl, sym, ap, ap₂, subst, ◌∙◌}
use mathlib.Core.Bool.{Bool, true, false, not, cond, false≢true}
use mathlib.Core.List.{List, [], ◌∷◌, ◌++◌, map, append_assoc, append-nil}
use mathlib.Core.Logic.{⊎_elim}
use mathlib.Core.Option.{Option, some}
use Prim.Native.Nat.{ℕ, zero, suc, ◌≤◌}
use native.Mathlib.Omega.{arith}
use borrow.Author.Tests.{eqb-true, eqb-false}
use lib.Dec.{eqb}
use lib.ListN.{length, get_elem?, set, length-append}
use Rattle.model.specs.Basics.{◌&◌, Res, refuse, done, remove}
use Rattle.model.specs.Wrapper.{has_side}
use Rattle.model.specs.Side.{Status, down, arrived, leaving, Particle, output, input, Box, Message, Core, Side, State, side, put_side}
use Rattle.model.specs.Table.{Term, nil, par, box, new, out, inp, term}
use Rattle.model.specs.Load.{Composition, wrapper_of, Setting, setting}
use Rattle.model.specs.WellFormed.{env_at, shelf_of, ready}
use Rattle.model.specs.Step.{Step, Moved, Result, copied, is_down, is_arrived, is_leaving, enter, go_down, up_from, up_particle, up, descend_particle, descend, meet_term, meet_particles, meet, pass, leave, takes, inner, local, known, side_after, step}
use Rattle.model.specs.Stranded.{is_stranded, lobby_asked, stranded_from, stranded_in, OldestFirst}
use Rattle.model.proofs.Basics.Tests.{fst, snd, need_done, choose_done, bind_done, no_some, some_inj}
use Rattle.model.proofs.Basics.Items.{clash}
use Rattle.model.proofs.Basics.Splits.{pick_get}
use Rattle.model.proofs.Basics.Sides.{put_same, put_other}
use Rattle.model.proofs.Formed.Keeping.{done_inj}
use Rattle.model.proofs.Formed.Invariant.{settled_done, which, positive, size}
use Rattle.model.proofs.Independent.Independence.{moved, step_has}

-- A MESSAGE that is down, leaves, or arrived on `out`
down_not : (m : Message) → is_down m.status ≡ true → is_stranded m ≡ false
unfolding ◌&◌
down_not m e = by m.status e
  where
    by : (s : Status) → is_down s ≡ true → (is_arrived s & not (eqb m.chan 1)) ≡ false
    by down q = refl
    by arrived q = absurd (false≢true q)
    by leaving q = refl

leaving_not : (m : Message) → is_leaving m.status ≡ true → is_stranded m ≡ false
unfolding ◌&◌
leaving_not m e = by m.status e
  where
    by : (s : Status) → is_leaving s ≡ true → (is_arrived s & not (eqb m.chan 1)) ≡ false
    by down q = refl
    by arrived q = absurd (false≢true q)
    by leaving q = refl

passing_not : (m : Message) → is_arrived m.status & eqb m.chan 1 ≡ true → is_stranded m ≡ false
unfolding ◌&◌
passing_not m e = rw (fst (is_arrived m.status) (eqb m.chan 1) e, snd (is_arrived m.status) (eqb m.chan 1) e)

-- THE STRANDED OF A LOBBY
in_append : (l r : List Message) → stranded_in (l ++ r) ≡ stranded_in l ++ stranded_in r
unfolding stranded_in
in_append [] r = refl
in_append (m ∷ l) r = ap (λ (x : List Message). cond (is_stranded m) (m ∷ x) x) (in_append l r) ∙ by (is_stranded m)
  where
    by : (t : Bool) → cond t (m ∷ (stranded_in l ++ stranded_in r)) (stranded_in l ++ stranded_in r) ≡ cond t (m ∷ stranded_in l) (stranded_in l) ++ stranded_in r
    by true = refl
    by false = refl

-- one that is not stranded makes no difference
in_other : (m : Message) (l : List Message) → is_stranded m ≡ false → stranded_in (m ∷ l) ≡ stranded_in l
unfolding stranded_in
in_other m l e = ap (λ (t : Bool). cond t (m ∷ stranded_in l) (stranded_in l)) e

in_under : (m : Message) (l r : List Message) → stranded_in l ≡ stranded_in r → stranded_in (m ∷ l) ≡ stranded_in (m ∷ r)
unfolding stranded_in
in_under m l r e = ap (λ (x : List Message). cond (is_stranded m) (m ∷ x) x) e

in_remove : (l : List Message) (i : ℕ) (m : Message) → get_elem? l i ≡ some m → is_stranded m ≡ false → stranded_in (remove l i) ≡ stranded_in l
in_remove [] zero m e f = absurd (no_some e)
in_remove [] (suc i) m e f = absurd (no_some e)
in_remove (x ∷ l) zero m e f = sym (in_other x l (ap is_stranded (some_inj e) ∙ f))
in_remove (x ∷ l) (suc i) m e f = in_under x (remove l i) l (in_remove l i m e f)

in_set : (l : List Message) (i : ℕ) (m n : Message) → get_elem? l i ≡ some m → is_stranded m ≡ false → is_stranded n ≡ false → stranded_in (set l i n) ≡ stranded_in l
in_set [] zero m n e f g = absurd (no_some e)
in_set [] (suc i) m n e f g = absurd (no_some e)
in_set (x ∷ l) zero m n e f g = in_other n l g ∙ sym (in_other x l (ap is_stranded (some_inj e) ∙ f))
in_set (x ∷ l) (suc i) m n e f g = in_under x (set l i n) l (in_set l i m n e f g)

in_copied : (cs v : List ℕ) → stranded_in (copied cs v) ≡ []
unfolding stranded_in ◌&◌
in_copied [] v = refl
in_copied (c ∷ cs) v = in_copied cs v

-- one message
in_one : (m : Message) → length (stranded_in (m ∷ [])) ≤ 1
unfolding stranded_in
in_one m = by (is_stranded m)
  where
    by : (t : Bool) → length (cond t (m ∷ []) []) ≤ 1
    by true = omega arith
    by false = omega arith

-- A LOBBY AFTER A STEP: the stranded are those before, and at most one behind them
pub record Grown (l l' : List Message) : Type 0 where
  pub more : List Message
  pub few : length more ≤ 1
  pub is : stranded_in l' ≡ stranded_in l ++ more

same : (l l' : List Message) → stranded_in l' ≡ stranded_in l → Grown l l'
same l l' e = record { more = []; few = omega arith; is = e ∙ sym (append-nil (stranded_in l)) }

-- none of those added is stranded
added : (l r : List Message) → stranded_in r ≡ [] → Grown l (l ++ r)
added l r e = record { more = []; few = omega arith; is = in_append l r ∙ ap (λ (x : List Message). stranded_in l ++ x) e }

grown_as : {l : List Message} {m n : Moved} → done n ≡ done m → Grown l n.core.lobby → Grown l m.core.lobby
grown_as {l = l} e g = subst (λ (y : Moved). Grown l y.core.lobby) (done_inj e) g

module _ (c : Setting) (s : Core) (m : Moved) where
  abbrev Grows : Type 0
  Grows = Grown s.lobby m.core.lobby

  enter_grows : (cs : List ℕ) (kn : ℕ → Bool) (ws : List ℕ) → enter cs kn s ws ≡ done m → Grows
  unfolding enter stranded_in ◌&◌
  enter_grows cs kn ws e =
      let a = need_done _ _ _ _ e in
      let b = need_done _ _ _ _ a.1 in
      let d : Message = record { status = down; chan = 0; val = ws } in
      grown_as b.1 (added s.lobby (copied cs ws ++ (d ∷ [])) (in_append (copied cs ws) (d ∷ []) ∙ ap (λ (x : List Message). x ++ []) (in_copied cs ws)))

  down_grows : (i : ℕ) → go_down s i ≡ done m → Grows
  unfolding go_down
  down_grows i e =
      let (x, there, f) = pick_get _ _ _ _ e in
      let a = need_done _ _ _ _ f in
      grown_as a.1 (same s.lobby (remove s.lobby i) (in_remove s.lobby i x there (down_not x a.0)))

  up_grows : (i : ℕ) → up c s i ≡ done m → Grows
  unfolding up up_particle up_from
  up_grows i e = let (p, there, f) = pick_get _ _ _ _ e in go p f
    where
      from : (b ch : ℕ) (v : List ℕ) → up_from c s i b ch v ≡ done m → Grows
      from zero ch v f =
          let new : Message = record { status = arrived; chan = ch; val = v } in
          ⊎_elim (λ a. grown_as a.1 (same s.lobby s.lobby refl))
          (λ a. grown_as a.1 (record { more = stranded_in (new ∷ []); few = in_one new; is = in_append s.lobby (new ∷ []) }))
          (choose_done _ _ _ _ f)
      from (suc b) ch v f = let (x, there, g) = pick_get _ _ _ _ f in grown_as g (same s.lobby s.lobby refl)

      go : (p : Particle) → up_particle c s i p ≡ done m → Grows
      go (input b n vs) f = absurd (clash f)
      go (output b ch g v) f = from b ch v (need_done _ _ _ _ f).1

  descend_grows : (i j : ℕ) → descend s i j ≡ done m → Grows
  unfolding descend descend_particle
  descend_grows i j e = let (p, there, f) = pick_get _ _ _ _ e in let (x, at, g) = pick_get _ _ _ _ f in go p x g
    where
      go : (p : Particle) (x : Box) → descend_particle s i j x p ≡ done m → Grows
      go (input b n vs) x f = absurd (clash f)
      go (output b ch g v) x f = grown_as (need_done _ _ _ _ f).1 (same s.lobby s.lobby refl)

  meet_grows : (i j : ℕ) → meet c s i j ≡ done m → Grows
  unfolding meet meet_particles meet_term
  meet_grows i j e = let (p, there, f) = pick_get _ _ _ _ e in let (q, at, g) = pick_get _ _ _ _ f in go p q g
    where
      met : (b ch : ℕ) (g : _) (v : List ℕ) (b' : ℕ) (ρ : _) (a : Term) → meet_term c s i j b ch g v b' ρ a ≡ done m → Grows
      met b ch g v b' ρ (nil _) f = absurd (clash f)
      met b ch g v b' ρ (par _ _ _) f = absurd (clash f)
      met b ch g v b' ρ (box _ _ _) f = absurd (clash f)
      met b ch g v b' ρ (new _ _ _) f = absurd (clash f)
      met b ch g v b' ρ (out _ _ _ _) f = absurd (clash f)
      met b ch g v b' ρ (inp _ _ _ _ _ _) f =
          let x = need_done _ _ _ _ f in
          let y = bind_done _ _ _ x.1 in
          grown_as (need_done _ _ _ _ y.2).1 (same s.lobby s.lobby refl)

      go : (p q : Particle) → meet_particles c s i j p q ≡ done m → Grows
      go (output b ch g v) (input b' n vs) f = met b ch g v b' (env_at c.table n vs) (term c.table n) f
      go (output b ch g v) (output b' ch' g' v') f = absurd (clash f)
      go (input b n vs) q f = absurd (clash f)

  pass_grows : (cs : List ℕ) (i : ℕ) → pass cs s i ≡ done m → Grows
  unfolding pass ◌&◌
  pass_grows cs i e =
      let (x, there, f) = pick_get _ _ _ _ e in
      let a = need_done _ _ _ _ f in
      let gone : Message = record { status = leaving; chan = 1; val = x.val } in
      let put : List Message = set s.lobby i gone in
      let kept : stranded_in put ≡ stranded_in s.lobby = in_set s.lobby i x gone there (passing_not x a.0) refl in
      grown_as a.1
      (same s.lobby (put ++ copied cs x.val) (in_append put (copied cs x.val) ∙ ap₂ (λ (y z : List Message). y ++ z) kept (in_copied cs x.val) ∙ append-nil (stranded_in s.lobby)))

  leave_grows : (i : ℕ) → leave s i ≡ done m → Grows
  unfolding leave
  leave_grows i e =
      let (x, there, f) = pick_get _ _ _ _ e in
      let a = need_done _ _ _ _ f in
      grown_as a.1 (same s.lobby (remove s.lobby i) (in_remove s.lobby i x there (leaving_not x a.0)))

  take_grows : (from : ℕ) (sh : List (List ℕ)) (i : ℕ) → takes from sh s i ≡ done m → Grows
  unfolding takes stranded_in ◌&◌
  take_grows from sh i e =
      let (v, there, f) = pick_get _ _ _ _ e in
      grown_as (need_done _ _ _ _ f).1 (added s.lobby (record { status = down; chan = 2; val = v } ∷ []) refl)

  inner_grows : (x : Step) → inner c s x ≡ done m → Grows
  unfolding inner
  inner_grows x e =
      let a = need_done _ _ _ _ e in
      ⊎_elim (λ p. descend_grows x.i x.j p.1) (λ p.
      ⊎_elim (λ p. meet_grows x.i x.j p.1) (λ p. let b = need_done _ _ _ _ p.1 in
      ⊎_elim (λ p. down_grows x.i p.1) (λ p.
      ⊎_elim (λ p. up_grows x.i p.1) (λ p.
      ⊎_elim (λ p. pass_grows c.wrapper.copies x.i p.1) (λ p.
      ⊎_elim (λ p. leave_grows x.i p.1) (λ p. absurd (clash p.1))
      (choose_done _ _ _ _ p.1)) (choose_done _ _ _ _ p.1)) (choose_done _ _ _ _ p.1)) (choose_done _ _ _ _ b.1)) (choose_done _ _ _ _ p.1)) (choose_done _ _ _ _ a.1)

  local_grows : (kn : ℕ → Bool) (sh : ℕ → List (List ℕ)) (x : Step) → local c kn sh s x ≡ done m → Grows
  unfolding local
  local_grows kn sh x e =
      ⊎_elim (λ p. enter_grows c.wrapper.copies kn x.words (need_done _ _ _ _ p.1).1)
      (λ p. ⊎_elim (λ q. let b = bind_done _ _ _ (need_done _ _ _ _ q.1).1 in take_grows b.0.source (sh b.0.source) x.i b.2) (λ q. inner_grows x q.1) (choose_done _ _ _ _ p.1))
      (choose_done _ _ _ _ e)

-- A STEP, of every side
module _ (b : Composition) (s : State) (x : Step) where
  -- where it is none of a side that may act, nothing changes
  unmoved : ready b s & has_side (wrapper_of b) x.side ≡ false → (step b s x).after ≡ s
  unfolding step
  unmoved e = rw (e, step)

  -- the side that makes it
  own_grows : ready b s ≡ true → has_side (wrapper_of b) x.side ≡ true → (r : Res Moved) → moved b s x ≡ r → Grown (side s x.side).core.lobby (side_after (side s x.side) r).core.lobby
  own_grows e h (refuse k) q = same _ _ refl
  own_grows e h (done m) q = local_grows (setting b x.side) (side s x.side).core m (known s) (shelf_of s) x (settled_done _ m q).is

  step_grows : (n : ℕ) → Grown (side s n).core.lobby (side (step b s x).after n).core.lobby
  step_grows n = by (ready b s & has_side (wrapper_of b) x.side) refl
    where
      grown_at : (t : State) → (step b s x).after ≡ t → Grown (side s n).core.lobby (side t n).core.lobby → Grown (side s n).core.lobby (side (step b s x).after n).core.lobby
      grown_at t e g = subst (λ (y : State). Grown (side s n).core.lobby (side y n).core.lobby) (sym e) g

      by : (t : Bool) → ready b s & has_side (wrapper_of b) x.side ≡ t → Grown (side s n).core.lobby (side (step b s x).after n).core.lobby
      by false e = grown_at s (unmoved e) (same _ _ refl)
      by true e = grown_at (put_side s x.side own) (ap (λ (r : Result). r.after) (step_has b s x ready-so has_so)) (at (eqb n x.side) refl)
        where
          ready-so : ready b s ≡ true
          ready-so = fst _ _ e

          has_so : has_side (wrapper_of b) x.side ≡ true
          has_so = snd _ _ e

          own : Side
          own = side_after (side s x.side) (moved b s x)

          at : (u : Bool) → eqb n x.side ≡ u → Grown (side s n).core.lobby (side (put_side s x.side own) n).core.lobby
          at false q = subst (λ (o : Side). Grown (side s n).core.lobby o.core.lobby) (sym (put_other s x.side n own (eqb-false n x.side q))) (same _ _ refl)
          at true q =
              let number = positive x.side (which b.wrapper x.side has_so) in
              let many = size b s ready-so in
              let put : side (put_side s x.side own) x.side ≡ own = put_same s x.side own number.0 (omega (arith, number.1, many)) in
              let grown = subst (λ (o : Side). Grown (side s x.side).core.lobby o.core.lobby) (sym put) (own_grows ready-so has_so (moved b s x) refl) in
              subst (λ (k : ℕ). Grown (side s k).core.lobby (side (put_side s x.side own) k).core.lobby) (sym (eqb-true n x.side q)) grown

-- THE POSITIONS name the stranded in their order
one_named : (t : Bool) (f : ℕ → Option Message) (j : ℕ) (ps : List ℕ) (m : Message) (ms : List Message) → f j ≡ some m → map f ps ≡ map some ms →
    map f (cond t (j ∷ ps) ps) ≡ map some (cond t (m ∷ ms) ms)
one_named true f j ps m ms e h = ap₂ (λ (x : Option Message) (xs : List (Option Message)). x ∷ xs) e h
one_named false f j ps m ms e h = h

behind : (p : List Message) (m : Message) (l : List Message) → get_elem? (p ++ m ∷ l) (length p) ≡ some m
behind [] m l = refl
behind (x ∷ p) m l = behind p m l

-- of the messages l behind some others
named : (l p : List Message) → map (get_elem? (p ++ l)) (stranded_from (length p) l) ≡ map some (stranded_in l)
unfolding stranded_from stranded_in
named [] p = refl
named (m ∷ l) p =
    let one : p ++ m ∷ l ≡ (p ++ (m ∷ [])) ++ l = sym (append_assoc p (m ∷ []) l) in
    let place : suc (length p) ≡ length (p ++ (m ∷ [])) = omega (arith, length-append p (m ∷ [])) in
    let rest : map (get_elem? (p ++ m ∷ l)) (stranded_from (suc (length p)) l) ≡ map some (stranded_in l) =
    ap₂ (λ (w : List Message) (j : ℕ). map (get_elem? w) (stranded_from j l)) one place ∙ named l (p ++ (m ∷ [])) in
    one_named (is_stranded m) (get_elem? (p ++ m ∷ l)) (length p) (stranded_from (suc (length p)) l) m (stranded_in l) (behind p m l) rest

pub oldest_first : OldestFirst
unfolding OldestFirst
oldest_first b s n = (named (lobby_asked b (some s) n) [], (λ x. let g = step_grows b s x n in (g.more, g.few, g.is)))
