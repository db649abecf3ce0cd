-- Enter and take, and the marks of left names: a law for each way that the code goes.
use mathlib.Core.Path.{◌≡◌, refl, sym, ap, ap₂, subst, ◌∙◌}
use mathlib.Core.Logic.{⊎_elim}
use mathlib.Core.Bool.{Bool, true, false, not}
use mathlib.Core.List.{List, [], ◌∷◌, ◌++◌, append_assoc}
use mathlib.Core.Option.{some}
use Prim.Native.Nat.{ℕ, suc, ◌+◌, ◌<◌, ◌≤◌}
use native.Mathlib.Omega.{arith}
use borrow.Author.Tests.{leb-true}
use lib.Dec.{leb}
use lib.ListN.{length, get_or, get_elem?, set, take}
use lib.Seq.{take_all}
use Rattle.std.specs.Bool.{MatchBool}
use Rattle.std.specs.List.{AllWithin, HoldsAt}
use Rattle.model.specs.Basics.{◌&◌, ◌or◌, refuse, every, one_of}
use Rattle.model.specs.Values.{is_value, is_minted}
use Rattle.model.specs.Side.{down, taken_at}
use Rattle.model.specs.Side.{Message as MMessage}
use Rattle.model.specs.Step.{copied, takes, mark_of, settled}
use Rattle.model.proofs.Basics.Tests.{fst, snd, both, or_cases}
use Rattle.values.specs.declared.Value.{Value}
use Rattle.values.specs.Env.{view_value, Stores}
use Rattle.wrappers.specs.Copies.{log_if}
use Rattle.sides.specs.declared.Status.TheVariants.{Down}
use Rattle.sides.specs.declared.Message.{Message}
use Rattle.sides.specs.declared.Lobby.{Lobby}
use Rattle.sides.specs.Views.{view_message, view_lobby, fits_message, fits_lobby}
use Rattle.sides.specs.Holding.{LobbyIs}
use Rattle.sides.proofs.Lists.{view_length, view_at, every_at, every_fails}
use Rattle.sides.proofs.Lobbies.{value_fits}
use Rattle.sides.specs.declared.Rest.{Rest}
use Rattle.sides.specs.Layout.{shelf_of, view_place, fits_place, view_shelf, ValueIs}
use Rattle.sides.specs.Sides.{core_of, fits_side}
use Rattle.sides.proofs.Reading.{shelf_count}
use Rattle.steps.specs.declared.Said.TheVariants as said
use Rattle.steps.proofs.CoreSteps as core
use Rattle.steps.specs.declared.RestStep.{RestStep}
use Rattle.steps.specs.StepIs.{StepIs, Sane}
use Rattle.steps.specs.declared.Offer.{Offer}
use Rattle.steps.specs.Asked.{Says, OfferIs, OfferIf, copy_fits, enter_by, EnterAt, Source, TakeAt, known_by, may_enter}
use Rattle.steps.proofs.TakeCore as source
use Rattle.steps.proofs.Held.{Full, side_rows, side_lobby, side_shelf, side_again, same_core, lobby_n, quiet_is, said_is, offer_last}

-- A MINTED NAME has a place among the marks
pub mark_in_lem : (w : ℕ) → is_minted w ≡ true → mark_of w < 512
unfolding ◌or◌
mark_in_lem w e =
    ⊎_elim (λ p. let a = leb-true 65536 w (fst _ _ p) in let b = leb-true w 65791 (snd _ _ p) in omega arith)
    (λ p. let a = leb-true 131072 w (fst _ _ p) in let b = leb-true w 131327 (snd _ _ p) in omega arith)
    (or_cases (leb 65536 w & leb w 65791) (leb 131072 w & leb w 131327) e)

-- what `all` says of words that pass f
every_within : (f : ℕ → Bool) (l : List ℕ) → AllWithin (λ w. f w ≡ true) l 0 (length l) → every f l ≡ true
every_within f [] h = refl
every_within f (x ∷ l) h = both _ _ (h 0 0 (omega arith) (omega arith)) (every_within f l (λ k d _ p. h (suc k) d (omega arith) (omega arith)))

pub all_every : (f : ℕ → Bool) (l : List ℕ) (r : Bool) → MatchBool r (AllWithin (λ w. f w ≡ true) l 0 (length l)) ((k : ℕ) × (k < length l) × HoldsAt (λ w. f w ≡ false) l k) → r ≡ every f l
all_every f l true h = sym (every_within f l h)
all_every f l false (k, p, e) = sym (ap (every f) (sym (take_all (length l) l (omega arith))) ∙ every_fails f l k (length l) 0 p (omega arith) (e 0))

-- a word that may enter
module _ (ms : List (List Bool)) (w : ℕ) where
  pub may_minted : (r : Bool) (m : ℕ) → is_minted w ≡ true → m ≡ mark_of w → r ≡ one_of (λ l. get_or l m false) ms → r ≡ may_enter ms w
  unfolding ◌or◌
  may_minted r m p e q = rw p (q ∙ ap (λ (k : ℕ). one_of (λ l. get_or l k false) ms) e)

  pub may_other : (r : Bool) → r ≡ is_minted w → r ≡ false → not r ≡ may_enter ms w
  unfolding ◌or◌
  may_other r e m = rw (m, ← e, m)

-- ENTER, where the side is logged or not
module _ (l : List ℕ) (o : Rest) (b : Bool) (ms : List (List Bool)) (ws : List ℕ) (ok : Sane l o) where
  pub enter_no_value : is_value ws ≡ false → enter_by b ms l o ws ≡ refuse 11
  enter_no_value e = core.enter_11 (core_of l o) ok.short_outputs ok.few (log_if b) (known_by ms) ws e

  pub enter_unknown : is_value ws ≡ true → every (may_enter ms) ws ≡ false → enter_by b ms l o ws ≡ refuse 12
  enter_unknown e f = core.enter_12 (core_of l o) ok.short_outputs ok.few (log_if b) (known_by ms) ws e f

  module _ (full : Full o) where
    enter_full : is_value ws ≡ true → every (may_enter ms) ws ≡ true → 16 < o.lobby.len + (length (log_if b) + 1) → enter_by b ms l o ws ≡ refuse 17
    enter_full e f n = core.enter_17 (core_of l o) ok.short_outputs ok.few (log_if b) (known_by ms) ws e f (rw (lobby_n l o ok full) n)

    few_words : is_value ws ≡ true → length ws ≤ 16
    unfolding is_value
    few_words p = leb-true (length ws) 16 (fst _ _ p)

    pub enter_last : is_value ws ≡ true → every (may_enter ms) ws ≡ true → (n : ℕ) (a : Offer) → n ≡ length (log_if b) → OfferIf (o.lobby.len + (n + 1) ≤ 16) (length ws) 17 a →
        OfferIs (enter_by b ms l o ws) (length ws) (EnterAt b o ms ws) a
    enter_last e f n a same w =
        offer_last _ (length ws) (EnterAt b o ms ws) (o.lobby.len + (n + 1) ≤ 16) 17 a w (λ room. record { shape = e; names = f; short = few_words e; room = omega (arith, room, same) })
        (λ none. enter_full e f (omega (arith, none, same)))

    pub enter_did : (k : ℕ) (r : RestStep) (v : Value) (m : Message) (z y : Lobby) (n j : ℕ) → k ≡ length ws → EnterAt b o ms ws k → Stores (take k ws) v →
        m ≡ record { status = Down; channel = 0; value = v } →
        LobbyIs (view_lobby o.lobby ++ copied (log_if b) (view_value v)) n (fits_lobby o.lobby & copy_fits v) z →
        LobbyIs (view_lobby z ++ (view_message m ∷ [])) j (fits_lobby z & fits_message m) y →
        r ≡ record { said = said.In; value = v; rest = record { particles = o.particles; boxes = o.boxes; shelved = o.shelved; minted = o.minted; lobby = y; taken = o.taken } } →
        StepIs (enter_by b ms l o ws) l o l r
    enter_did k r v m z y n j same a st me zs ys re =
        let stored : Stores ws v = subst (λ (s : List ℕ). Stores s v) (take_all k ws (omega (arith, same))) st in
        let few : length ws ≤ 16 = omega (arith, same, a.short) in
        let vw : view_value v ≡ ws = stored.words ∙ take_all 16 ws few in
        let len : v.len ≤ 16 = omega (arith, stored.count) in
        let kept = value_fits v len in
        let q : Rest = record { particles = o.particles; boxes = o.boxes; shelved = o.shelved; minted = o.minted; lobby = y; taken = o.taken } in
        let fits : fits_side l q ≡ true =
        side_again l l o q ok.arrays refl (side_rows l o ok.arrays) (ys.fits (both _ _ (zs.fits (both _ _ (side_lobby l o ok.arrays) kept)) (ap fits_message me ∙ kept))) (side_shelf l o ok.arrays) in
        let room = subst (λ (c : ℕ). c + (length (log_if b) + 1) ≤ 16) (sym (lobby_n l o ok full)) a.room in
        let d = core.enter_done (core_of l o) ok.short_outputs ok.few (log_if b) (known_by ms) ws a.shape a.names room in
        let L : List MMessage = view_lobby o.lobby in
        let lobby-is : view_lobby y ≡ L ++ (copied (log_if b) ws ++ (record { status = down; chan = 0; val = ws } ∷ [])) =
        ys.view ∙ ap₂ (λ (u : List MMessage) (g : Message). u ++ (view_message g ∷ [])) zs.view me
        ∙ ap (λ (u : List ℕ). (L ++ copied (log_if b) u) ++ (record { status = down; chan = 0; val = u } ∷ [])) vw
        ∙ append_assoc L (copied (log_if b) ws) (record { status = down; chan = 0; val = ws } ∷ []) in
        rw re
        (said_is _ (core.entered (core_of l o) ok.short_outputs ok.few (log_if b) (known_by ms) ws) l l o q (record { said = said.In; value = v; rest = q }) d refl vw len refl
        (same_core o.minted o.taken refl refl lobby-is refl) refl fits)

-- TAKE, from the shelf of the words h, which has n values
module _ (l : List ℕ) (o : Rest) (m : ℕ) (h : List ℕ) (n i : ℕ) (ok : Sane l o) (full : Full o) (s : Source m h n) where
  cap : n ≤ 32
  cap = leb-true n 32 (fst _ _ s.fits)

  pub take_past : n ≤ i → settled (takes m (view_shelf h n) (core_of l o) i) ≡ refuse 10
  take_past p = source.take_10 (core_of l o) ok.short_outputs ok.few m (view_shelf h n) i (rw (view_length view_place (shelf_of h) n (rw (shelf_count h) cap)) p)

  module _ (p : i < n) where
    held : get_elem? (view_shelf h n) i ≡ some (view_place (get_or (shelf_of h) i []))
    held = view_at view_place (shelf_of h) n i [] p (rw (shelf_count h) cap)

    pub taken_in : taken_at m i < 64
    taken_in = let a = s.last in omega (arith, s.first, cap)

    pub shelf_in : i < 32
    shelf_in = omega (arith, cap)

    pub shelf_fits_at : fits_place (get_or (shelf_of h) i []) ≡ true
    shelf_fits_at = every_at fits_place (shelf_of h) n i [] p (rw (shelf_count h) cap) (snd _ _ s.fits)

    pub take_again : get_or o.taken (taken_at m i) false ≡ true → settled (takes m (view_shelf h n) (core_of l o) i) ≡ refuse 13
    take_again t = source.take_13 (core_of l o) ok.short_outputs ok.few m (view_shelf h n) i _ held t

    take_full : get_or o.taken (taken_at m i) false ≡ false → 16 ≤ o.lobby.len → settled (takes m (view_shelf h n) (core_of l o) i) ≡ refuse 17
    take_full t q = source.take_17 (core_of l o) ok.short_outputs ok.few m (view_shelf h n) i _ held t (rw (lobby_n l o ok full) q)

    pub take_last : get_or o.taken (taken_at m i) false ≡ false → (a : Offer) → OfferIf (o.lobby.len + 1 ≤ 16) i 17 a →
        OfferIs (settled (takes m (view_shelf h n) (core_of l o) i)) i (TakeAt o m n) a
    take_last t a w =
        offer_last _ i (TakeAt o m n) (o.lobby.len + 1 ≤ 16) 17 a w (λ room. record { held = p; fresh = t; room = omega (arith, room) })
        (λ none. take_full t (omega (arith, none)))

pub take_did : (l : List ℕ) (o : Rest) (m : ℕ) (h : List ℕ) (n i k : ℕ) → k ≡ i → (ok : Sane l o) (full : Full o) (s : Source m h n)
    (r : RestStep) (v : Value) (g : Message) (y : Lobby) (c j : ℕ) (b : List Bool) → TakeAt o m n k →
    ValueIs (view_place (get_or (shelf_of h) k [])) v →
    g ≡ record { status = Down; channel = 2; value = v } →
    LobbyIs (view_lobby o.lobby ++ (view_message g ∷ [])) c (fits_lobby o.lobby & fits_message g) y →
    j ≡ taken_at m k →
    b ≡ set o.taken j true →
    Says said.Silent (record { particles = o.particles; boxes = o.boxes; shelved = o.shelved; minted = o.minted; lobby = y; taken = b }) r →
    StepIs (settled (takes m (view_shelf h n) (core_of l o) i)) l o l r
take_did l o m h n i k same ok full s r v g y c j b a vi ge ys je be says =
    let x : List ℕ = view_place (get_or (shelf_of h) k []) in
    let d = source.take_done (core_of l o) ok.short_outputs ok.few m (view_shelf h n) k x (held l o m h n k ok full s a.held) a.fresh (rw (lobby_n l o ok full) a.room) in
    let marks : b ≡ set o.taken (taken_at m k) true = be ∙ ap (λ (z : ℕ). set o.taken z true) je in
    let after : List Bool → Rest = λ z. record { particles = o.particles; boxes = o.boxes; shelved = o.shelved; minted = o.minted; lobby = y; taken = z } in
    let w : Rest = after (set o.taken (taken_at m k) true) in
    let fits : fits_side l w ≡ true =
    side_again l l o w ok.arrays refl (side_rows l o ok.arrays) (ys.fits (both _ _ (side_lobby l o ok.arrays) (ap fits_message ge ∙ value_fits v vi.short))) (side_shelf l o ok.arrays) in
    let sent = ap (λ (z : Message). view_lobby o.lobby ++ (view_message z ∷ [])) ge ∙ ap (λ (z : List ℕ). view_lobby o.lobby ++ (record { status = down; chan = 2; val = z } ∷ [])) vi.view in
    subst (λ (z : ℕ). StepIs (settled (takes m (view_shelf h n) (core_of l o) z)) l o l r) same
    (quiet_is _ (source.take_core m (core_of l o) k x) l l o (after b) w r d says (ap after marks)
    (same_core o.minted (set o.taken (taken_at m k) true) refl refl (ys.view ∙ sent) refl) refl fits)
