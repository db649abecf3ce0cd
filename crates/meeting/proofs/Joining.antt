-- An output and an input: 13 to 16, a law for each way that the code goes.
use mathlib.Core.Path.{◌≡◌, sym, ap, ap₂, subst, ◌∙◌}
use mathlib.Core.Bool.{true, false}
use mathlib.Core.List.{List}
use mathlib.Core.Logic.{⊎_elim}
use Prim.Native.Nat.{ℕ, ◌+◌, ◌<◌, ◌≤◌}
use native.Mathlib.Omega.{arith}
use lib.Dec.{eqb}
use lib.ListN.{length, get_or, take, length-take, length-append}
use Rattle.model.specs.Basics.{refuse, done}
use Rattle.model.specs.Values.{Env, Fit, matches, binders, extend}
use Rattle.model.specs.Table.{Table, count, kind, field, scope, inp, term}
use Rattle.model.specs.Side.{Particle, output, input, Core}
use Rattle.model.specs.Unfolding.{defined}
use Rattle.model.specs.Load.{Setting}
use Rattle.model.specs.Step.{meet_particles, settled}
use Rattle.model.proofs.Basics.Environments.{Sized}
use Rattle.values.specs.declared.Value.{Value}
use Rattle.values.specs.Env.{view_value}
use Rattle.tables.specs.Checks.{Passes}
use Rattle.sides.specs.Layout.{row_at, tag_in, view_row, ValueIs}
use Rattle.sides.specs.Environments.{env_of}
use Rattle.sides.proofs.Viewing.{output_view, input_view}
use Rattle.environments.specs.Fits.{Fits}
use Rattle.environments.specs.Inputs.{values_of, InputEnvIs}
use Rattle.environments.specs.Long.{long_in}
use Rattle.environments.specs.Matching.{pattern_at, Matchable}
use Rattle.environments.proofs.Slots.{env_sized}
use Rattle.environments.proofs.Waiting.{env_is}
use Rattle.steps.specs.declared.Offer.{Offer}
use Rattle.steps.specs.declared.Offer.TheVariants.{At, Refused}
use Rattle.steps.specs.Asked.{channel_in, value_in}
use Rattle.unfolding.specs.Scoped.{Scoped}
use Rattle.meeting.specs.Meeting.{node_at, input_env, input_pattern, fits_at, Joinable, MatchAnswer, BodyAnswer, Joins, Joining}
use Rattle.meeting.proofs.PairLaws.{is_false}
use Rattle.meeting.proofs.Inputs.{input_term, body_inside, body_names, names_few}
use Rattle.meeting.proofs.MeetSteps.{meet_13, meet_14, meet_15, meet_16}

module _ {t : Table} {l : List ℕ} {i j : ℕ} (J : Joinable t l i j) where
  abbrev n : ℕ
  n = node_at l j

  abbrev ρ : Env
  ρ = input_env t l j

  abbrev pat : List ℕ
  pat = input_pattern t l j

  pub the_term : term t n ≡ inp n (eqb (kind t n) 6) (field t n 1) (field t n 2) pat (term t (field t n 4))
  the_term = input_term t J.waits.passes n J.waits.inside J.kind

  -- a setting by its table
  abbrev pub on_table : Setting → Setting
  on_table c = record { wrapper = c.wrapper; side = c.side; table = t }

  -- the model's answer, for any setting with the table
  pub for_all : (c : Setting) → c.table ≡ t → (s : Core) →
      settled (meet_particles c s i j (view_row (row_at l i)) (view_row (row_at l j))) ≡
      settled (meet_particles (on_table c) s i j (output (get_or (row_at l i) 1 0) (channel_in l i) (tag_in (row_at l i)) (value_in l i)) (input (get_or (row_at l j) 1 0) n (values_of (row_at l j))))
  for_all c e s =
      ap (λ (u : Table). settled (meet_particles (record { wrapper = c.wrapper; side = c.side; table = u }) s i j (view_row (row_at l i)) (view_row (row_at l j)))) e ∙
      ap₂ (λ (a b : Particle). settled (meet_particles (on_table c) s i j a b)) (output_view (row_at l i) J.out) (input_view (row_at l j) J.waits.input)

  -- THE INPUT'S ENVIRONMENT stands in e, d names of it
  module _ {e₀ e : List ℕ} {d : ℕ} (w : length e₀ ≡ 144) (ie : InputEnvIs t l j e₀ e d) where
    its_env : (env_of e d ≡ ρ) × Fits e d
    its_env = env_is t l j J.waits e₀ e d w ie

    pub fit_asks : (length l ≡ 5184) × (i < 32) × (j < 32) × (length e ≡ 144) × (d ≤ 8)
    fit_asks = (J.waits.long, J.row, J.waits.row, its_env.1.long, its_env.1.few)

    -- 13
    pub join_13 : {x : ℕ} → (x ≡ 13) × (fits_at t l i j (env_of e d) ≡ true → ⊥) → (e' : List ℕ) → Joining t l i j e' (Refused x)
    join_13 unmet e' =
        let unfit : fits_at t l i j ρ ≡ false = sym (ap (fits_at t l i j) its_env.0) ∙ is_false _ unmet.1 in
        λ c ct s. for_all c ct s ∙ meet_13 (on_table c) s i j _ _ _ _ _ n (values_of (row_at l j)) n (eqb (kind t n) 6) _ _ pat _ the_term unfit ∙ ap refuse (sym unmet.0)

-- where the two fit: the pattern at place p is matched with the output's value v, the input's environment stands in e, d names of it
pub record Fitted (t : Table) (l : List ℕ) (i j : ℕ) (e₀ e : List ℕ) (d p : ℕ) (v : Value) : Type 0 where
  pub joinable : Joinable t l i j
  pub width : length e₀ ≡ 144
  pub env : InputEnvIs t l j e₀ e d
  pub fit : fits_at t l i j (env_of e d) ≡ true
  pub place : p ≡ field t (node_at l j) 3
  pub value : ValueIs (value_in l i) v

-- THE MATCH
module _ {t : Table} {l : List ℕ} {i j : ℕ} {e₀ e : List ℕ} {d p : ℕ} {v : Value} (F : Fitted t l i j e₀ e d p v) where
  abbrev J : Joinable t l i j
  J = F.joinable

  abbrev node : ℕ
  node = node_at l j

  abbrev outer : Env
  outer = input_env t l j

  abbrev pattern : List ℕ
  pattern = input_pattern t l j

  env : (env_of e d ≡ outer) × Fits e d
  env = its_env J F.width F.env

  fits : fits_at t l i j outer ≡ true
  fits = sym (ap (fits_at t l i j) env.0) ∙ F.fit

  pat_is : pattern_at t.pool p ≡ pattern
  pat_is = ap (pattern_at t.pool) F.place

  pub match_asks : Matchable e d (pattern_at t.pool p) v × Fits e d
  match_asks =
      let few = names_few t J.waits.passes node J.waits.inside J.kind in
      let names = ap (λ (x : List ℕ). length (binders x)) pat_is in
      (record { long = env.1.long; room = omega (arith, few, names, F.env.count); short = F.value.short }, env.1)

  met : matches (pattern_at t.pool p) 1 (view_value v) ≡ matches pattern 1 (value_in l i)
  met = ap₂ (λ (x u : List ℕ). matches x 1 u) pat_is F.value.view

  pub join_14 : {x : ℕ} → (x ≡ 14) × (matches (pattern_at t.pool p) 1 (view_value v) ≡ refuse 14) → (e' : List ℕ) → Joining t l i j e' (Refused x)
  join_14 unmet e' =
      let none = sym met ∙ unmet.1 in
      λ c ct s. for_all J c ct s ∙ meet_14 (on_table J c) s i j _ _ _ _ _ node (values_of (row_at l j)) node (eqb (kind t node) 6) _ _ pattern _ (the_term J) fits none ∙ ap refuse (sym unmet.0)

  -- THE BODY at node u, with k names in force
  module _ (e' : List ℕ) {k : ℕ} (bound : MatchAnswer (pattern_at t.pool p) (view_value v) (env_of e d) e' (At k)) where
    abbrev m : Fit
    m = bound.0

    abbrev π : Env
    π = extend outer (binders pattern) m.bound

    matched : matches pattern 1 (value_in l i) ≡ done m
    matched = sym met ∙ bound.1

    env_now : env_of e' k ≡ π
    env_now = bound.2 ∙ ap₂ (λ (o : Env) (x : List ℕ). extend o (binders x) m.bound) env.0 pat_is

    fits_now : Fits e' k
    fits_now = bound.3

    pub some_width : length e' ≡ length e₀
    some_width = fits_now.long ∙ sym F.width

    paired : Sized π
    paired = subst (λ (o : Env). Sized o) env_now (env_sized e' k fits_now)

    inside : field t node 4 < count t
    inside = body_inside t J.waits.passes node J.waits.inside J.kind

    scoped : Scoped t (field t node 4) k
    scoped =
        let names : length (take k e') ≡ length π.names = ap (λ (o : Env). length o.names) env_now in
        let all : length π.names ≡ length (scope t node) + length (binders pattern) = length-append (scope t node) (binders pattern) in
        let there = body_names t J.waits.passes node J.waits.inside J.kind in
        record { passes = J.waits.passes; inside = inside; names = omega (arith, names, all, there, length-take k e', fits_now.few, fits_now.long) }

    joins : defined (term t (field t node 4)) π ≡ true → long_in (term t (field t node 4)) π ≡ false → Joins t l i j e' k
    joins df sh = record {
      fits = fits;
      fit = m;
      matched = matched;
      env = env_now;
      words = fits_now;
      scoped = scoped;
      is_defined = ap (defined (term t (field t node 4))) env_now ∙ df;
      short = ap (long_in (term t (field t node 4))) env_now ∙ sh;
    }

    module _ {u : ℕ} (ue : u ≡ field t node 4) where
      pub body_asks : Passes t × (u < count t) × Fits e' k
      body_asks = (J.waits.passes, subst (λ (x : ℕ). x < count t) (sym ue) inside, fits_now)

      answered : (a : Offer) → BodyAnswer k (term t (field t node 4)) π a → Joining t l i j e' a
      answered (At x) (same, df, sh) = subst (λ (z : ℕ). Joins t l i j e' z) (sym same) (joins df sh)
      answered (Refused x) a = λ c ct s. for_all J c ct s ∙
          ⊎_elim
          (λ q. meet_15 (on_table J c) s i j _ _ _ _ _ node (values_of (row_at l j)) node (eqb (kind t node) 6) _ _ pattern _ (the_term J) fits m matched q.1 ∙ ap refuse (sym q.0))
          (λ q. meet_16 (on_table J c) s i j _ _ _ _ _ node (values_of (row_at l j)) node (eqb (kind t node) 6) _ _ pattern _ (the_term J) fits m matched q.1 paired q.2 ∙ ap refuse (sym q.0))
          a

      pub join_body : (a : Offer) → BodyAnswer k (term t u) (env_of e' k) a → Joining t l i j e' a
      join_body a h = answered a (subst (λ (o : Env). BodyAnswer k (term t (field t node 4)) o a) env_now (subst (λ (x : ℕ). BodyAnswer k (term t x) (env_of e' k) a) ue h))
