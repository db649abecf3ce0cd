-- The state behind the steps of a list, step by step, and the lobby of a side in it.
use mathlib.Core.Path.{◌≡◌, refl, sym, ap, subst, ◌∙◌}
use mathlib.Core.Bool.{Bool, true, false, cond, false≢true}
use mathlib.Core.List.{List, [], ◌∷◌, map}
use mathlib.Core.Option.{Option, none, some}
use Prim.Native.Nat.{ℕ, ◌-◌, ◌<◌, ◌≤◌}
use native.Mathlib.Omega.{arith}
use lib.ListN.{length, get_or, drop, get_or-map}
use Rattle.std.specs.Prelude.{Some, None, Err}
use Rattle.std.specs.declared.option.Option as rust
use Rattle.std.specs.declared.result.Result.{Result}
use Rattle.std.proofs.lemmas.Option.{none-some, same_Some}
use Rattle.model.specs.Side.{Message, no_side, side}
use Rattle.model.specs.Side.{Side as MSide, State as MState}
use Rattle.model.specs.Wrapper.{all_sides, described, has_side}
use Rattle.model.specs.Load.{Composition, wrapper_of, Loaded, refused, ok, is_ok, load}
use Rattle.model.specs.Step.{Step, step}
use Rattle.model.specs.Runs.{after_all}
use Rattle.model.specs.Stranded.{lobby_asked, stranded_from}
use Rattle.model.proofs.Stranded.Listed.{asked_has, asked_lacks}
use Rattle.format.specs.Words.{before, steps_of, step_at}
use Rattle.format.proofs.StepWords.{steps_end}
use Rattle.sides.specs.declared.Rest.{Rest}
use Rattle.sides.specs.declared.Lobby.{Lobby}
use Rattle.sides.specs.Views.{view_lobby}
use Rattle.sides.proofs.Lobbies.{lobby_short}
use Rattle.steps.proofs.Held.{side_lobby}
use Rattle.loading.proofs.Faults.{map_at}
use Rattle.loading.proofs.Starting.{has_number, has_place}
use Rattle.dispatch.specs.Sharing.{sides_in, state_in}
use Rattle.dispatch.proofs.AllSides.{side_by_lem}
use Rattle.execution.specs.Execution.{record_end, MayRun}
use Rattle.execution.proofs.RecordEnds.{steps_found, steps_broken}
use Rattle.listing.specs.declared.TooShort.{TooShort}
use Rattle.std.specs.Prelude.{Result}
use Rattle.listing.specs.Listing.{listed_of, ListedIs}
use Rattle.stranding.specs.declared.AfterError.{AfterError}
use Rattle.loading.specs.declared.LoadRefusal.{LoadRefusal}
use Rattle.loading.specs.Loading.{told_by}
use Rattle.stranding.specs.declared.AfterError.TheVariants as error
use Rattle.stranding.specs.Stranding.{behind, Ended, broken_off, told, positions_in, positions_from, stranded_after, after_of, AfterIs}
use Rattle.stranding.specs.Ending.{lobbies_in, lobby_in, loaded_behind, EndIs}

-- THE STATE BEHIND THE STEPS is that behind those from place p on, from the state t
end_before : (b : Composition) (t : MState) (x : Step) (o : Option (List Step)) → behind b t (before x o) ≡ behind b (step b t x).after o
unfolding before after_all
end_before b t x none = refl
end_before b t x (some xs) = refl

module _ (b : Composition) (l : List ℕ) (p : ℕ) (t : MState) (z : Option MState) (h : z ≡ behind b t (steps_of (drop p l))) where
  pub end_next : (e : ℕ) → record_end 4 l p ≡ Some e → (u : MState) → u ≡ (step b t (step_at l p)).after → z ≡ behind b u (steps_of (drop e l))
  end_next e f u after =
      h
      ∙ ap (behind b t) (steps_found l p e f)
      ∙ end_before b t (step_at l p) (steps_of (drop e l))
      ∙ ap (λ (y : MState). behind b y (steps_of (drop e l))) (sym after)

  pub end_broken : p < length l → record_end 4 l p ≡ None → z ≡ none
  end_broken lt f = h ∙ ap (behind b t) (steps_broken l p lt f)

  pub end_all : length l ≤ p → z ≡ some t
  unfolding after_all
  end_all le = h ∙ ap (behind b t) (steps_end l p le)

-- A SIDE'S LOBBY by its place, or an empty one where the wrapper lacks the side
module _ (w n : ℕ) (os : List Rest) where
  by_side_lem : (t : Bool) → has_side (described w) n ≡ t → cond t (get_or (lobbies_in os) (n - 1) []) [] ≡ lobby_in w n os
  by_side_lem t h = ap (λ (x : Bool). cond x (get_or (lobbies_in os) (n - 1) []) []) (sym h)

  pub lobby_has : has_side (described w) n ≡ true → length os ≡ length all_sides → (k : ℕ) → k ≡ n - 1 → (d : Rest) → view_lobby (get_or os k d).lobby ≡ lobby_in w n os
  lobby_has h many k z d =
      let inside : k < length os = omega (arith, has_place w n h, many, z) in
      map_at (λ (o : Rest). view_lobby o.lobby) os k d [] inside ∙ ap (λ (j : ℕ). get_or (lobbies_in os) j []) z ∙ by_side_lem true h

  pub lobby_lacks : has_side (described w) n ≡ false → [] ≡ lobby_in w n os
  lobby_lacks h = by_side_lem false h

-- of the sides that are lent
lobbies_lent : (ls : List (List ℕ)) (os : List Rest) (ms : List (List Bool)) → length os ≡ length ls → length ms ≡ length ls → map (λ (o : MSide). o.core.lobby) (sides_in ls os ms) ≡ lobbies_in os
unfolding sides_in
lobbies_lent [] [] ms a c = refl
lobbies_lent [] (o ∷ os) ms a c = absurd (omega arith)
lobbies_lent (l ∷ ls) [] ms a c = refl
lobbies_lent (l ∷ ls) (o ∷ os) [] a c = absurd (omega arith)
lobbies_lent (l ∷ ls) (o ∷ os) (m ∷ ms) a c = ap (λ (x : List (List Message)). view_lobby o.lobby ∷ x) (lobbies_lent ls os ms (omega arith) (omega arith))

module _ {b : Composition} {ls : List (List ℕ)} {os : List Rest} {ms : List (List Bool)} {hs : List ℕ} (m : MayRun b ls os ms hs) where
  pub rests_short : (k : ℕ) (d : Rest) → k < length all_sides → (get_or os k d).lobby.len ≤ 16
  rests_short k d h = lobby_short (get_or os k d).lobby (side_lobby (get_or ls k []) (get_or os k d) (m.lent.fits k d h))

  lobby_at : (n : ℕ) → 0 < n → (side (state_in ls os ms) n).core.lobby ≡ get_or (lobbies_in os) (n - 1) []
  lobby_at n h =
      ap (λ (o : MSide). o.core.lobby) (side_by_lem (state_in ls os ms) n h)
      ∙ sym (get_or-map (λ (o : MSide). o.core.lobby) (sides_in ls os ms) (n - 1) no_side)
      ∙ ap (λ (x : List (List Message)). get_or x (n - 1) []) (lobbies_lent ls os ms (m.lent.rests ∙ sym m.lent.words) (m.lent.marks ∙ sym m.lent.words))

  lobby_asked_lem : (n : ℕ) → lobby_in b.wrapper n os ≡ lobby_asked b (some (state_in ls os ms)) n
  lobby_asked_lem n = by (has_side (wrapper_of b) n) refl
    where
      by : (t : Bool) → has_side (wrapper_of b) n ≡ t → lobby_in b.wrapper n os ≡ lobby_asked b (some (state_in ls os ms)) n
      by true h = sym (by_side_lem b.wrapper n os true h) ∙ sym (lobby_at n (has_number b.wrapper n h).0) ∙ sym (asked_has b (state_in ls os ms) n m.ready h)
      by false h = sym (by_side_lem b.wrapper n os false h) ∙ sym (asked_lacks b (state_in ls os ms) n h)

-- WHAT IS SAID OF THE END
-- the list breaks off
pub ends_broken : (b : Composition) (o : Option MState) (n : ℕ) → o ≡ none → EndIs b o n None
ends_broken b o n z = rw z (record { lobby = refl; short = _ })

-- all steps are made
pub ends_there : {b : Composition} {ls : List (List ℕ)} {os : List Rest} {ms : List (List Bool)} {hs : List ℕ} → MayRun b ls os ms hs → (o : Option MState) (n : ℕ) → o ≡ some (state_in ls os ms) →
    (r : Lobby) → view_lobby r ≡ lobby_in b.wrapper n os → r.len ≤ 16 → EndIs b o n (Some r)
ends_there m o n z r is short = rw z (record { lobby = ap Some (is ∙ lobby_asked_lem m n); short = short })

-- from where load leads
pub ends_loaded : (b : Composition) (ws : List ℕ) (s : MState) → load b ≡ ok s → (n : ℕ) (r : rust.Option Lobby) → EndIs b (behind b s (steps_of ws)) n r → EndIs b (loaded_behind b ws (load b)) n r
ends_loaded b ws s e n r is = subst (λ (l : Loaded). EndIs b (loaded_behind b ws l) n r) (sym e) is

-- THE ANSWER
after_by : {x y : Ended (List ℕ)} {lent new : List ℕ} {r : Result ℕ AfterError} → x ≡ y → AfterIs y lent new r → AfterIs x lent new r
after_by {lent = lent} {new = new} {r = r} e h = subst (λ (z : Ended (List ℕ)). AfterIs z lent new r) (sym e) h

-- of the lobby behind the steps
ended_by : rust.Option Lobby → Ended (List ℕ)
ended_by None = broken_off
ended_by (Some l) = told (stranded_from 0 (view_lobby l))

at_end : (b : Composition) (o : Option MState) (n : ℕ) (r : rust.Option Lobby) → EndIs b o n r → ended_by r ≡ positions_in b n o
unfolding ended_by
at_end b none n None is = refl
at_end b none n (Some l) is = absurd (none-some _ (sym is.lobby))
at_end b (some s) n None is = absurd (none-some _ is.lobby)
at_end b (some s) n (Some l) is = ap (λ (m : List Message). told (stranded_from 0 m)) (same_Some _ _ is.lobby)

-- of a load and some steps
module _ (b : Composition) (ws : List ℕ) (n : ℕ) (lent : List ℕ) where
  pub after_refused : (f : LoadRefusal) → load b ≡ refused (told_by f) → AfterIs (stranded_after b ws n) lent lent (Err (error.Unloaded f))
  unfolding stranded_after
  after_refused f e = after_by (ap (positions_from b ws n) e) (record { answer = refl; words = refl })

  module _ (h : is_ok (load b) ≡ true) where
    ended : (r : rust.Option Lobby) → EndIs b (loaded_behind b ws (load b)) n r → stranded_after b ws n ≡ ended_by r
    unfolding stranded_after
    ended r is = at_load (load b) h ∙ sym (at_end b (loaded_behind b ws (load b)) n r is)
      where
        at_load : (x : Loaded) → is_ok x ≡ true → positions_from b ws n x ≡ positions_in b n (loaded_behind b ws x)
        at_load (refused y) q = absurd (false≢true q)
        at_load (ok s) q = refl

    module _ (r : rust.Option Lobby) (is : EndIs b (loaded_behind b ws (load b)) n r) where
      pub after_broken : r ≡ None → AfterIs (stranded_after b ws n) lent lent (Err error.BrokenOff)
      unfolding ended_by
      after_broken e = after_by (ended r is ∙ ap ended_by e) (record { answer = refl; words = refl })

      pub after_listed : (l : Lobby) → r ≡ Some l → (new : List ℕ) (q : Result ℕ TooShort) → ListedIs (stranded_from 0 (view_lobby l)) lent new q →
          (a : Result ℕ AfterError) → after_of a ≡ told (listed_of q) → AfterIs (stranded_after b ws n) lent new a
      unfolding ended_by
      after_listed l e new q put a same = after_by (ended r is ∙ ap ended_by e) (record { answer = same ∙ ap told put.answer; words = put.words })
