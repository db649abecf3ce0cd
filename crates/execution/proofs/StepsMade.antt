-- A step by words: of the side that is asked, or a refusal.
use mathlib.Core.Path.{◌≡◌, refl, sym, ap, ap₂, subst, ◌∙◌}
use mathlib.Core.Bool.{Bool, true, false, cond, false≢true}
use mathlib.Core.List.{List, [], map}
use Prim.Native.Nat.{ℕ, ◌-◌, ◌<◌}
use native.Mathlib.Omega.{arith}
use lib.ListN.{length, get_or, set, length-map}
use lib.Seq.{set-get_or}
use Rattle.model.specs.Basics.{Res}
use Rattle.model.specs.Side.{State}
use Rattle.model.specs.Wrapper.{all_sides, described, has_side}
use Rattle.model.specs.Load.{Composition, Setting}
use Rattle.model.specs.WellFormed.{ready}
use Rattle.model.specs.Step.{Step, Moved, Result, local, settled}
use Rattle.model.specs.Answer.{given}
use Rattle.model.proofs.Formed.Invariant.{keeps}
use Rattle.format.specs.Words.{step_at}
use Rattle.values.specs.declared.Value.{Value}
use Rattle.sides.proofs.Lists.{map_set}
use Rattle.wrappers.specs.Compositions.{composition}
use Rattle.sides.specs.declared.Rest.{Rest}
use Rattle.sides.specs.Sides.{core_of}
use Rattle.steps.specs.Asked.{known_by}
use Rattle.steps.specs.declared.Said.{Said}
use Rattle.steps.specs.declared.Said.TheVariants as said
use Rattle.loading.proofs.Faults.{map_at}
use Rattle.loading.proofs.Starting.{has_number, has_place}
use Rattle.answers.specs.Answers.{given_for}
use Rattle.steps.specs.declared.RestStep.{RestStep}
use Rattle.dispatch.specs.Stepping.{setting_of, asked, OwnReady}
use Rattle.dispatch.specs.Sharing.{shelves_in, shelved_of, state_in, SideReady, AtSide}
use Rattle.dispatch.proofs.AllSides.{shelves_of}
use Rattle.dispatch.proofs.InState.{none_asked, step_short, own_ready, answer_is, after_is, lent_after_lem}
use Rattle.execution.specs.Execution.{place_asked, Moves, MayRun, MayStep, Lacking, StepMade, Makes}

-- the model's move of the side that c names, with the rest o, by the step x
abbrev pub move_of : Setting → (o : Rest) → (ls : List (List ℕ)) → (ms : List (List Bool)) → (hs : List ℕ) → (x : Step) → Res Moved
move_of c o ls ms hs x = settled (local c (known_by ms) (shelves_in ls hs) (core_of (get_or ls (c.side - 1) []) o) x)

-- the step asked for is the one whose words stand at a place
pub asked_at : (l : List ℕ) (p k i j : ℕ) (ws : List ℕ) →
    k ≡ (step_at l p).kind → i ≡ (step_at l p).i → j ≡ (step_at l p).j → ws ≡ (step_at l p).words → asked k (step_at l p).side i j ws ≡ step_at l p
asked_at l p k i j ws a b c d = rw (a, b, c, d)

-- a side's step, by another move that is the same
pub at_same : {x y : Res Moved} {ls : List (List ℕ)} {k : ℕ} {o : Rest} {ms : List (List ℕ)} {r : RestStep} → x ≡ y → AtSide x ls k o ms r → AtSide y ls k o ms r
at_same {ls = ls} {k = k} {o = o} {ms = ms} {r = r} e h = subst (λ (z : Res Moved). AtSide z ls k o ms r) e h

clash : {A : Type 0} {t : Bool} → t ≡ true → t ≡ false → A
clash e f = absurd (false≢true (sym f ∙ e))

-- a side that the wrapper has or lacks: one case of the two
module _ {c : Setting} {o : Rest} {ls : List (List ℕ)} {ms : List (List Bool)} {hs : List ℕ} {x : Step} {ls' : List (List ℕ)} {ms' : List (List Bool)} {r : RestStep} where
  pub only_moved : has_side c.wrapper c.side ≡ true → Moves c o ls ms hs x ls' ms' r → StepMade c o ls ms hs x ls' ms' r
  only_moved e h = record { moved = λ _. h; lacking = λ f. clash e f }

  pub only_lacking : has_side c.wrapper c.side ≡ false → Lacking o ls ms ls' ms' r → StepMade c o ls ms hs x ls' ms' r
  only_lacking e h = record { moved = λ f. clash f e; lacking = λ _. h }

-- the same by lists that are equal
makes_as : {b : Composition} {s : State} {n : ℕ} {x : Step} {ls ls' : List (List ℕ)} {os os' : List Rest} {ms ms' : List (List Bool)} {hs hs' : List ℕ} {a : Said} {v : Value} →
    ls' ≡ ls → os' ≡ os → ms' ≡ ms → hs' ≡ hs → Makes b s x ls os ms hs n a v → Makes b s x ls' os' ms' hs' n a v
makes_as a e f g h = rw (a, e, f, g) h

-- the slices of all sides' nodes and pools, each read by `now`
module _ {A : Type 0} (now : A → List ℕ) (w : ℕ) (ns ps : List A) {ls : List (List ℕ)} {os : List Rest} {ms : List (List Bool)} {hs : List ℕ}
    (h : MayRun (composition w (map now ns) (map now ps)) ls os ms hs) (nl : length ns ≡ length all_sides) (pl : length ps ≡ length all_sides) where
  abbrev b : Composition
  b = composition w (map now ns) (map now ps)

  nodes_many : length (map now ns) ≡ length all_sides
  nodes_many = length-map ns now ∙ nl

  pools_many : length (map now ps) ≡ length all_sides
  pools_many = length-map ps now ∙ pl

  -- side m, which the wrapper has
  module _ (m : ℕ) (has : has_side (described w) m ≡ true) (u v : A) (d : Rest) where
    nodes_at : get_or (map now ns) (m - 1) [] ≡ now (get_or ns (m - 1) u)
    nodes_at = let q = has_place w m has in sym (map_at now ns (m - 1) u [] (omega (arith, q, nl)))

    pools_at : get_or (map now ps) (m - 1) [] ≡ now (get_or ps (m - 1) v)
    pools_at = let q = has_place w m has in sym (map_at now ps (m - 1) v [] (omega (arith, q, pl)))

    abbrev c : Setting
    c = setting_of w m (now (get_or ns (m - 1) u)) (now (get_or ps (m - 1) v))

    own : OwnReady c (get_or ls (m - 1) []) (get_or os (m - 1) d)
    own =
        let whole = own_ready w (map now ns) (map now ps) ls os ms h.lent nodes_many pools_many h.ready d m has in
        subst (λ (t : Setting). OwnReady t (get_or ls (m - 1) []) (get_or os (m - 1) d)) (ap₂ (setting_of w m) nodes_at pools_at) whole

    side_ready : SideReady c ms ls hs (get_or os (m - 1) d)
    side_ready = (h.lent.words, h.lent.marks, (has_number w m has).0, has_place w m has, own, shelves_of ls os ms h.lent hs h.shelved)

    -- its step is made
    side_makes : (x : Step) → m ≡ x.side → (ls' : List (List ℕ)) (ms' : List (List Bool)) (r : RestStep) → Moves c (get_or os (m - 1) d) ls ms hs x ls' ms' r →
        Makes b (state_in ls os ms) x ls' (set os (m - 1) r.rest) ms' (set hs (m - 1) r.rest.shelved) m r.said r.value
    side_makes x same ls' ms' r is =
        let mk = is.marked in
        let move : Setting → List ℕ → Res Moved = λ t ys. move_of t (get_or os (m - 1) d) ls ms ys x in
        let its : AtSide (move (setting_of w m (get_or (map now ns) (m - 1) []) (get_or (map now ps) (m - 1) [])) (shelved_of os)) ls (m - 1) (get_or os (m - 1) d) ls' r =
        at_same (ap₂ move (ap₂ (setting_of w m) (sym nodes_at) (sym pools_at)) h.shelved) is.step in
        let e = h.ready in
        let after = after_is w (map now ns) (map now ps) ls os ms h.lent nodes_many pools_many e d m has x (sym same) ls' ms' r its mk in
        record {
          runs = record {
            lent = lent_after_lem w (map now ns) (map now ps) ls os ms h.lent nodes_many pools_many e d m has x (sym same) ls' ms' r its mk;
            ready = ap (ready b) after ∙ keeps b (state_in ls os ms) x e;
            shelved = ap (λ (y : List ℕ). set y (m - 1) r.rest.shelved) h.shelved ∙ sym (map_set (λ (y : Rest). y.shelved) os (m - 1) r.rest);
          };
          after = after;
          answer = answer_is w (map now ns) (map now ps) ls os ms h.lent nodes_many pools_many e d m has x (sym same) ls' ms' r its mk;
          short = step_short _ _ _ _ _ is.step.step;
        }

  -- side m, which the wrapper lacks: nothing changes, at any place
  lacking_makes : (m i : ℕ) (d : Rest) → has_side (described w) m ≡ false → (x : Step) → m ≡ x.side → (ls' : List (List ℕ)) (ms' : List (List Bool)) (r : RestStep) →
      Lacking (get_or os i d) ls ms ls' ms' r → Makes b (state_in ls os ms) x ls' (set os i r.rest) ms' (set hs i r.rest.shelved) m r.said r.value
  lacking_makes m i d lacks x same ls' ms' r is =
      let no = none_asked b (state_in ls os ms) x h.ready (ap (has_side (described w)) (sym same) ∙ lacks) in
      let rests : set os i r.rest ≡ os = ap (set os i) is.rest ∙ set-get_or os i d in
      let counts : set hs i r.rest.shelved ≡ hs =
      ap (λ (y : List ℕ). set y i r.rest.shelved) h.shelved ∙ sym (map_set (λ (y : Rest). y.shelved) os i r.rest) ∙ ap shelved_of rests ∙ sym h.shelved in
      makes_as is.words rests is.marks counts
      (record {
        runs = h;
        after = ap (λ (y : Result). y.after) (sym no);
        answer = ap₂ (λ (a : Said) (v : List ℕ). given_for a m v) is.said is.value ∙ ap (λ (k : ℕ). given_for (said.Refused 10) k []) same ∙ ap (λ (y : Result). given y.answer) (sym no);
        short = is.short;
      })

  -- THE SIDE THAT IS ASKED, at its place
  module _ (m i : ℕ) (place : i ≡ place_asked (described w) m) (u v : A) (d : Rest) where
    abbrev at : ℕ → Setting
    at j = setting_of w m (now (get_or ns j u)) (now (get_or ps j v))

    its_place : has_side (described w) m ≡ true → i ≡ m - 1
    its_place has = place ∙ ap (λ (t : Bool). cond t (m - 1) 0) has

    pub may_step : MayStep (at i) ms ls hs (get_or os i d)
    may_step has = subst (λ (j : ℕ). SideReady (at j) ms ls hs (get_or os j d)) (sym (its_place has)) (side_ready m has u v d)

    pub makes : (x : Step) → m ≡ x.side → (ls' : List (List ℕ)) (ms' : List (List Bool)) (r : RestStep) → StepMade (at i) (get_or os i d) ls ms hs x ls' ms' r →
        Makes b (state_in ls os ms) x ls' (set os i r.rest) ms' (set hs i r.rest.shelved) m r.said r.value
    makes x same ls' ms' r is = by (has_side (described w) m) refl
      where
        by : (t : Bool) → has_side (described w) m ≡ t → Makes b (state_in ls os ms) x ls' (set os i r.rest) ms' (set hs i r.rest.shelved) m r.said r.value
        by false e = lacking_makes m i d e x same ls' ms' r (is.lacking e)
        by true e =
            let there = subst (λ (j : ℕ). Moves (at j) (get_or os j d) ls ms hs x ls' ms' r) (its_place e) (is.moved e) in
            subst (λ (j : ℕ). Makes b (state_in ls os ms) x ls' (set os j r.rest) ms' (set hs j r.rest.shelved) m r.said r.value) (sym (its_place e)) (side_makes m e u v d x same ls' ms' r there)

-- a place that is asked is one of the sides'
pub place_within : (w m : ℕ) → place_asked (described w) m < length all_sides
place_within w m = by (has_side (described w) m) refl
  where
    by : (t : Bool) → has_side (described w) m ≡ t → cond t (m - 1) 0 < length all_sides
    by true e = has_place w m e
    by false e = omega arith
