-- The names of a state: each one held is known outside or new; the new ones are told apart from each other and from the known.
use mathlib.Core.Path.{◌≡◌, refl, sym, ap, ◌∙◌, subst}
use mathlib.Core.Bool.{Bool, true, false, not, cond, false≢true}
use mathlib.Core.List.{List, [], ◌∷◌, ◌++◌, map}
use mathlib.Core.Logic.{⊎_elim}
use Prim.Native.Nat.{ℕ, zero, suc, ◌+◌, ◌-◌, ◌<◌, ◌≤◌}
use native.Mathlib.Omega.{arith}
use borrow.Author.Tests.{leb-true, ltb-true, eqb-true, eqb-false, eq-eqb, le-leb}
use lib.Dec.{ltb, eqb, T, eqb_refl}
use Rattle.calculus.specs.Transitions.{mem, In, Out∉}
use Rattle.model.specs.Basics.{◌&◌, ◌or◌, every, has}
use Rattle.model.specs.Values.{is_minted, is_outside, serial, side_of as mint_side}
use Rattle.model.specs.Side.{State, side}
use Rattle.model.specs.Wrapper.{all_sides, described, has_side}
use Rattle.model.specs.Load.{Composition, wrapper_of}
use Rattle.model.specs.WellFormed.{counts, count_of, held}
use Rattle.model.specs.Step.{known}
use Rattle.model.specs.Process.{upto, mint_of, keep, by_side, minted_of, own_name, NamesDistinct, new_of, known_of}
use Rattle.calculus.proofs.Restriction.{Good}
use Rattle.calculus.proofs.Restriction.{known as all_of}
use Rattle.calculus.proofs.Members.{SameMembers}
use Rattle.calculus.proofs.KnownNames.{bool_same}
use Rattle.calculus.proofs.FreeNames.{mem_cases, mem_left, mem_right, or_cases, or_left, or_right}
use Rattle.model.proofs.Basics.Sides.{described_by}
use Rattle.model.proofs.Basics.Tests.{fst, snd, both, alt, or_cases as Bool-cases, or_right as bool-right, or_first}
use Rattle.model.proofs.Basics.Names.{minted_range, outside_range, minted_not_outside, Held, is_public_lem, is_outside_lem, is_minted_lem, held_cases}
use Rattle.model.proofs.Formed.Invariant.{which, positive, count_is}
use Rattle.model.proofs.Formed.MeetingKeeps.{minted_number_lem}

-- f i is among f 0 .. f (n - 1)
pub in_upto : (n i : ℕ) (f : ℕ → ℕ) → i < n → T (mem (f i) (upto n f))
in_upto zero i f h = absurd (omega arith)
in_upto (suc n) i f h = go (eqb i n) refl (λ l. in_upto n i f l)
  where
    apart : (i n : ℕ) → i < suc n → (i ≡ n → ⊥) → i < n
    apart i n h ne = omega arith

    go : (c : Bool) → eqb i n ≡ c → (i < n → T (mem (f i) (upto n f))) → T (mem (f i) (upto n f ++ f n ∷ []))
    go true e ih = mem_right (f i) (upto n f) (f n ∷ []) (subst (λ (z : ℕ). T (mem (f i) (f z ∷ []))) (eqb-true i n e) (or_left (eqb (f i) (f i)) false (eqb_refl (f i))))
    go false e ih = let ne = eqb-false i n e in mem_left (f i) (upto n f) (f n ∷ []) (ih (apart i n h ne))

pub is_true : (b : Bool) → b ≡ true → T b
is_true b e = subst (λ (c : Bool). T c) (sym e) tt

pub out_of : (x : ℕ) (l : List ℕ) → (T (mem x l) → ⊥) → Out∉ l x
out_of x l h = go (mem x l) refl
  where
    go : (b : Bool) → mem x l ≡ b → b ≡ false
    go true e = absurd (h (is_true _ e))
    go false e = refl

T-eqb : (x y : ℕ) → T (eqb x y) → x ≡ y
T-eqb x y h = eqb-true x y (go (eqb x y) h)
  where
    go : (b : Bool) → T b → b ≡ true
    go true t = refl
    go false t = absurd t

-- a member passes a test that every one passes
pub every_mem : (f : ℕ → Bool) (ws : List ℕ) (x : ℕ) → every f ws ≡ true → T (mem x ws) → f x ≡ true
every_mem f [] x h m = absurd m
every_mem f (w ∷ ws) x h m = ⊎_elim (λ a. subst (λ (z : ℕ). f z ≡ true) (sym (T-eqb x w a)) (fst _ _ h)) (λ a. every_mem f ws x (snd _ _ h) a) (or_cases (eqb x w) (mem x ws) m)

-- members of what is kept
pub keep_in : (f : ℕ → Bool) (l : List ℕ) (x : ℕ) → T (mem x l) → f x ≡ true → T (mem x (keep f l))
keep_in f [] x h e = h
keep_in f (y ∷ l) x h e = ⊎_elim
    (λ a. let q = T-eqb x y a in subst (λ (b : Bool). T (mem x (cond b (y ∷ keep f l) (keep f l)))) (sym (subst (λ (z : ℕ). f z ≡ true) q e)) (or_left (eqb x y) _ a))
    (λ a. go (f y) (keep_in f l x a e)) (or_cases (eqb x y) (mem x l) h)
  where
    go : (b : Bool) → T (mem x (keep f l)) → T (mem x (cond b (y ∷ keep f l) (keep f l)))
    go true h = or_right (eqb x y) (mem x (keep f l)) h
    go false h = h

pub keep_out : (f : ℕ → Bool) (l : List ℕ) (x : ℕ) → T (mem x (keep f l)) → T (mem x l) × (f x ≡ true)
keep_out f [] x h = absurd h
keep_out f (y ∷ l) x h = go (f y) refl h (keep_out f l x)
  where
    go : (b : Bool) → f y ≡ b → T (mem x (cond b (y ∷ keep f l) (keep f l))) → (T (mem x (keep f l)) → T (mem x l) × (f x ≡ true)) → T (mem x (y ∷ l)) × (f x ≡ true)
    go true e h ih = ⊎_elim (λ a. (or_left (eqb x y) (mem x l) a, subst (λ (z : ℕ). f z ≡ true) (sym (T-eqb x y a)) e)) (λ a. let r = ih a in (or_right (eqb x y) (mem x l) r.0, r.1)) (or_cases (eqb x y) (mem x (keep f l)) h)
    go false e h ih = let r = ih h in (or_right (eqb x y) (mem x l) r.0, r.1)

-- lists of different names
abbrev pub Apart : List ℕ → Type 0
Apart [] = Unit {0}
Apart (x ∷ l) = (T (mem x l) → ⊥) × Apart l

pub apart_keep : (f : ℕ → Bool) (l : List ℕ) → Apart l → Apart (keep f l)
apart_keep f [] h = tt
apart_keep f (x ∷ l) h = go (f x) (apart_keep f l h.1)
  where
    go : (b : Bool) → Apart (keep f l) → Apart (cond b (x ∷ keep f l) (keep f l))
    go true r = (λ m. h.0 (keep_out f l x m).0, r)
    go false r = r

pub apart_app : (l m : List ℕ) → Apart l → Apart m → ((x : ℕ) → T (mem x l) → T (mem x m) → ⊥) → Apart (l ++ m)
apart_app [] m p q h = q
apart_app (x ∷ l) m p q h = (λ e. ⊎_elim p.0 (λ a. h x (or_left (eqb x x) (mem x l) (is_true _ (eq-eqb x x refl))) a) (mem_cases x l m e), apart_app l m p.1 q (λ y a b. h y (or_right (eqb y x) (mem y l) a) b))

pub upto_out : (n : ℕ) (f : ℕ → ℕ) (x : ℕ) → T (mem x (upto n f)) → (i : ℕ) × (i < n) × (x ≡ f i)
upto_out zero f x h = absurd h
upto_out (suc n) f x h = ⊎_elim (λ a. let r = upto_out n f x a in (r.0, omega (arith, r.1), r.2))
    (λ a. ⊎_elim (λ b. (n, omega arith, T-eqb x (f n) b)) (λ b. absurd b) (or_cases (eqb x (f n)) false a)) (mem_cases x (upto n f) (f n ∷ []) h)

pub apart_upto : (n : ℕ) (f : ℕ → ℕ) → ((i j : ℕ) → f i ≡ f j → i ≡ j) → Apart (upto n f)
apart_upto zero f inj = tt
apart_upto (suc n) f inj = apart_app (upto n f) (f n ∷ []) (apart_upto n f inj) ((λ e. e), tt)
    (λ x a b. let r = upto_out n f x a in ⊎_elim (λ c. let q = inj r.0 n (sym r.2 ∙ T-eqb x (f n) c) in omega (arith, r.1)) (λ c. c) (or_cases (eqb x (f n)) false b))

pub good_of : (N A : List ℕ) → Apart N → ((x : ℕ) → T (mem x N) → T (mem x A) → ⊥) → Good N A
good_of [] A p h = tt
good_of (x ∷ N) A p h = (
  out_of x A (λ a. h x (or_left (eqb x x) (mem x N) (is_true _ (eq-eqb x x refl))) a),
  good_of N (x ∷ A) p.1 (λ y a b. ⊎_elim (λ c. p.0 (subst (λ (z : ℕ). T (mem z N)) (T-eqb y x c) a)) (λ c. h y (or_right (eqb y x) (mem y N) a) c) (or_cases (eqb y x) (mem y A) b)),
)

pub in_old : (N A : List ℕ) (y : ℕ) → In A y → In (all_of N A) y
in_old [] A y h = h
in_old (x ∷ N) A y h = in_old N (x ∷ A) y (or_right (eqb y x) (mem y A) h)

pub in_new : (N A : List ℕ) (y : ℕ) → T (mem y N) → In (all_of N A) y
in_new [] A y h = absurd h
in_new (x ∷ N) A y h = ⊎_elim (λ a. in_old N (x ∷ A) y (or_left (eqb y x) (mem y A) a)) (λ a. in_new N (x ∷ A) y a) (or_cases (eqb y x) (mem y N) h)

-- numbers that are different
abbrev pub Distinct : List ℕ → Type 0
Distinct [] = Unit {0}
Distinct (n ∷ ns) = (has n ns ≡ true → ⊥) × Distinct ns

-- a minted number, its side and its serial
minted_side : (w : ℕ) → is_minted w ≡ true → (has (mint_side w) all_sides ≡ true) × (mint_of (mint_side w) (serial w) ≡ w)
minted_side w e = ⊎_elim
    (λ p. let a = leb-true 65536 w (fst _ _ p) in let b = leb-true w 65791 (snd _ _ p) in let q : mint_side w ≡ 1 = omega arith in (or_first _ _ (eq-eqb (mint_side w) 1 q), omega arith))
    (λ p. let a = leb-true 131072 w (fst _ _ p) in let b = leb-true w 131327 (snd _ _ p) in let q : mint_side w ≡ 2 = omega arith in (bool-right (eqb (mint_side w) 1) _ (or_first _ _ (eq-eqb (mint_side w) 2 q)), omega arith))
    (alt _ _ e)

-- what each side has
pub by_in : (f : ℕ → List ℕ) (ns : List ℕ) (n x : ℕ) → has n ns ≡ true → T (mem x (f n)) → T (mem x (by_side f ns))
by_in f [] n x h m = absurd (false≢true h)
by_in f (k ∷ ns) n x h m = ⊎_elim (λ q. mem_left x (f k) (by_side f ns) (subst (λ (z : ℕ). T (mem x (f z))) (eqb-true n k q) m)) (λ q. mem_right x (f k) (by_side f ns) (by_in f ns n x q m)) (Bool-cases (eqb n k) (has n ns) h)

pub by_out : (f : ℕ → List ℕ) (ns : List ℕ) (x : ℕ) → T (mem x (by_side f ns)) → (n : ℕ) × (has n ns ≡ true) × T (mem x (f n))
by_out f [] x h = absurd h
by_out f (k ∷ ns) x h = ⊎_elim (λ q. (k, or_first (eqb k k) (has k ns) (eq-eqb k k refl), q)) (λ q. let r = by_out f ns x q in (r.0, bool-right (eqb r.0 k) (has r.0 ns) r.1, r.2)) (mem_cases x (f k) (by_side f ns) h)

pub apart_by : (f : ℕ → List ℕ) (ns : List ℕ) → Distinct ns → ((n : ℕ) → Apart (f n)) → ((n m x : ℕ) → has n ns ≡ true → has m ns ≡ true → T (mem x (f n)) → T (mem x (f m)) → n ≡ m) → Apart (by_side f ns)
apart_by f [] d a h = tt
apart_by f (k ∷ ns) d a h = apart_app (f k) (by_side f ns) (a k) (apart_by f ns d.1 a (λ n m x p q u v. h n m x (bool-right (eqb n k) (has n ns) p) (bool-right (eqb m k) (has m ns) q) u v))
    (λ x u v. let r = by_out f ns x v in let e : k ≡ r.0 = h k r.0 x (or_first (eqb k k) (has k ns) (eq-eqb k k refl)) (bool-right (eqb r.0 k) (has r.0 ns) r.1) u r.2 in
    d.0 (subst (λ (z : ℕ). has z ns ≡ true) (sym e) r.1))

pub map_out : (f : ℕ → ℕ) (ns : List ℕ) (x : ℕ) → T (mem x (map f ns)) → (n : ℕ) × (has n ns ≡ true) × (x ≡ f n)
map_out f [] x h = absurd h
map_out f (k ∷ ns) x h = ⊎_elim (λ q. (k, or_first (eqb k k) (has k ns) (eq-eqb k k refl), T-eqb x (f k) q))
    (λ q. let r = map_out f ns x q in (r.0, bool-right (eqb r.0 k) (has r.0 ns) r.1, r.2)) (or_cases (eqb x (f k)) (mem x (map f ns)) h)

pub map_in : (f : ℕ → ℕ) (ns : List ℕ) (n : ℕ) → has n ns ≡ true → T (mem (f n) (map f ns))
map_in f [] n h = absurd (false≢true h)
map_in f (k ∷ ns) n h = ⊎_elim (λ q. or_left (eqb (f n) (f k)) (mem (f n) (map f ns)) (is_true _ (eq-eqb (f n) (f k) (ap f (eqb-true n k q)))))
    (λ q. or_right (eqb (f n) (f k)) (mem (f n) (map f ns)) (map_in f ns n q)) (Bool-cases (eqb n k) (has n ns) h)

pub apart_map : (f : ℕ → ℕ) (ns : List ℕ) → Distinct ns → ((n m : ℕ) → f n ≡ f m → n ≡ m) → Apart (map f ns)
apart_map f [] d h = tt
apart_map f (k ∷ ns) d h = (λ q. let r = map_out f ns (f k) q in d.0 (subst (λ (z : ℕ). has z ns ≡ true) (sym (h k r.0 r.2)) r.1), apart_map f ns d.1 h)

-- the sides of a wrapper are different
pub sides_distinct : (w : ℕ) → Distinct (described w).sides
sides_distinct = described_by (λ d. Distinct d.sides) (false≢true, tt) (false≢true, (false≢true, tt)) (false≢true, tt) tt

-- all the names that the environment may bring
abbrev pub outside_names : List ℕ
outside_names = upto 256 (λ i. 196608 + i)

pub outside_in_lem : (w : ℕ) → is_outside w ≡ true → T (mem w outside_names)
outside_in_lem w e =
    let r = outside_range w e in
    let q : 196608 + (w - 196608) ≡ w = omega (arith, r.0) in
    subst (λ (z : ℕ). T (mem z outside_names)) q (in_upto 256 (w - 196608) (λ i. 196608 + i) (omega (arith, r.0, r.1)))

pub in_outside : (w : ℕ) → T (mem w outside_names) → is_outside w ≡ true
in_outside w h =
    let r = upto_out 256 (λ i. 196608 + i) w h in
    both _ _ (le-leb 196608 w (omega (arith, r.1, r.2))) (le-leb w 196863 (omega (arith, r.1, r.2)))

-- the names known outside where the environment has brought them all
abbrev pub known_all : State → List ℕ
known_all s = known_of outside_names s

-- where a known name is from
pub data KnownBy (X : List ℕ) (s : State) (w : ℕ) : Type 0 where
  is_low : w < 81 → KnownBy X s w
  is_brought : T (mem w X) → KnownBy X s w
  has_left : T (mem w (minted_of s)) → known s w ≡ true → KnownBy X s w

pub known_by : (X : List ℕ) (s : State) (w : ℕ) → In (known_of X s) w → KnownBy X s w
unfolding known_of
known_by X s w h = ⊎_elim (λ a. let r = upto_out 81 (λ i. i) w a in is_low (omega (arith, r.1, r.2)))
    (λ a. ⊎_elim (λ c. is_brought c) (λ c. let r = keep_out (known s) (minted_of s) w c in has_left r.0 r.1) (mem_cases w X (keep (known s) (minted_of s)) a))
    (mem_cases w (upto 81 (λ i. i)) (X ++ keep (known s) (minted_of s)) h)

pub by_known : (X : List ℕ) (s : State) (w : ℕ) → KnownBy X s w → In (known_of X s) w
unfolding known_of
by_known X s w (is_low l) = mem_left w (upto 81 (λ i. i)) (X ++ keep (known s) (minted_of s)) (in_upto 81 w (λ i. i) l)
by_known X s w (is_brought h) = mem_right w (upto 81 (λ i. i)) (X ++ keep (known s) (minted_of s)) (mem_left w X (keep (known s) (minted_of s)) h)
by_known X s w (has_left h e) = mem_right w (upto 81 (λ i. i)) (X ++ keep (known s) (minted_of s)) (mem_right w X (keep (known s) (minted_of s)) (keep_in (known s) (minted_of s) w h e))

-- whichever the environment has brought, they are among all of them
pub known_fewer : (X : List ℕ) (s : State) → every is_outside X ≡ true → (z : ℕ) → In (known_of X s) z → In (known_all s) z
known_fewer X s h z i = go (known_by X s z i)
  where
    go : KnownBy X s z → In (known_of outside_names s) z
    go (is_low l) = by_known outside_names s z (is_low l)
    go (is_brought k) = by_known outside_names s z (is_brought (outside_in_lem z (every_mem is_outside X z h k)))
    go (has_left k e) = by_known outside_names s z (has_left k e)

-- and with all of them they are all that is known
pub known_more : (X : List ℕ) (s : State) → every is_outside X ≡ true → SameMembers (outside_names ++ known_of X s) (known_all s)
known_more X s h z = bool_same (mem z (outside_names ++ known_of X s)) (mem z (known_all s))
    (λ i. ⊎_elim (λ k. by_known outside_names s z (is_brought k)) (λ k. known_fewer X s h z k) (mem_cases z outside_names (known_of X s) i)) (λ i. go (known_by outside_names s z i))
  where
    go : KnownBy outside_names s z → T (mem z (outside_names ++ known_of X s))
    go (is_low l) = mem_right z outside_names (known_of X s) (by_known X s z (is_low l))
    go (is_brought k) = mem_left z outside_names (known_of X s) k
    go (has_left k e) = mem_right z outside_names (known_of X s) (by_known X s z (has_left k e))

-- what is minted is a minted number
pub minted_is : (s : State) → ((n : ℕ) → (side s n).core.contents.minted ≤ 256) → (x : ℕ) → T (mem x (minted_of s)) → is_minted x ≡ true
minted_is s few x h =
    let r = by_out (λ n. upto (side s n).core.contents.minted (mint_of n)) all_sides x h in
    let t = upto_out (side s r.0).core.contents.minted (mint_of r.0) x r.2 in
    subst (λ (z : ℕ). is_minted z ≡ true) (sym t.2) (minted_number_lem r.0 t.0 r.1 (omega (arith, few r.0, t.1))).0

module _ (b : Composition) (s : State) where
  -- the names that the state's process may have
  abbrev pub All : List ℕ
  All = all_of (new_of b s) (known_all s)

  -- public names, and those towards the environment
  pub low_in : (y : ℕ) → y < 81 → In All y
  low_in y h = in_old (new_of b s) (known_all s) y (by_known outside_names s y (is_low h))

  pub own_in : (n : ℕ) → has_side (wrapper_of b) n ≡ true → In All (own_name n)
  unfolding new_of
  own_in n h = in_new (new_of b s) (known_all s) (own_name n) (mem_left (own_name n) (map own_name (wrapper_of b).sides) (keep (λ x. not (known s x)) (minted_of s)) (map_in own_name (wrapper_of b).sides n h))

  pub minted_in_lem : (y : ℕ) → T (mem y (minted_of s)) → In All y
  unfolding new_of
  minted_in_lem y h = go (known s y) refl
    where
      go : (t : Bool) → known s y ≡ t → In (all_of (new_of b s) (known_all s)) y
      go true e = in_old (new_of b s) (known_all s) y (by_known outside_names s y (has_left h e))
      go false e = in_new (new_of b s) (known_all s) y (mem_right y (map own_name (wrapper_of b).sides) (keep (λ x. not (known s x)) (minted_of s)) (keep_in (λ x. not (known s x)) (minted_of s) y h (ap not e)))

  -- a minted number is its side's with its serial
  pub held_minted : (w : ℕ) → is_minted w & ltb (serial w) (count_of (counts s) (mint_side w)) ≡ true → T (mem w (minted_of s))
  held_minted w e =
      let l : serial w < (side s (mint_side w)).core.contents.minted = ltb-true (serial w) (side s (mint_side w)).core.contents.minted (ap (ltb (serial w)) (sym (count_is s (mint_side w))) ∙ snd _ _ e) in
      by_in (λ n. upto (side s n).core.contents.minted (mint_of n)) all_sides (mint_side w) w (minted_side w (fst _ _ e)).0
      (subst (λ (z : ℕ). T (mem z (upto (side s (mint_side w)).core.contents.minted (mint_of (mint_side w))))) (minted_side w (fst _ _ e)).1 (in_upto (side s (mint_side w)).core.contents.minted (serial w) (mint_of (mint_side w)) l))

  -- a name that is held is known outside or new
  pub held_in : (w : ℕ) → held (counts s) w ≡ true → In All w
  held_in w e = go (held_cases (counts s) w e)
    where
      go : Held (counts s) w → In (all_of (new_of b s) (known_all s)) w
      go (is_public_lem p) = let l = leb-true w 63 p in low_in w (omega arith)
      go (is_outside_lem p) = in_old (new_of b s) (known_all s) w (by_known outside_names s w (is_brought (outside_in_lem w p)))
      go (is_minted_lem p) = minted_in_lem w (held_minted w p)

  pub minted_high : (w : ℕ) → T (mem w (minted_of s)) → 65536 ≤ w
  minted_high w h =
      let r = by_out (λ n. upto (side s n).core.contents.minted (mint_of n)) all_sides w h in
      let t = upto_out (side s r.0).core.contents.minted (mint_of r.0) w r.2 in
      omega (arith, (positive r.0 r.1).0, t.2)

  pub own_low : (w : ℕ) → T (mem w (map own_name (wrapper_of b).sides)) → (81 ≤ w) × (w ≤ 88)
  own_low w h =
      let r = map_out own_name (wrapper_of b).sides w h in
      let p = positive r.0 (which b.wrapper r.0 r.1) in
      (omega (arith, p.0, r.2), omega (arith, p.1, r.2))

  pub apart_minted : ((n : ℕ) → (side s n).core.contents.minted ≤ 256) → Apart (minted_of s)
  apart_minted few = apart_by (λ n. upto (side s n).core.contents.minted (mint_of n)) all_sides (false≢true, (false≢true, tt)) (λ n. apart_upto (side s n).core.contents.minted (mint_of n) (λ i j e. omega arith))
      (λ n m x p q u v. let r = upto_out (side s n).core.contents.minted (mint_of n) x u in let t = upto_out (side s m).core.contents.minted (mint_of m) x v in omega (arith, few n, few m, r.1, r.2, t.1, t.2))

  -- the wrapper's own names are not known outside
  pub own_unknown : (w : ℕ) → T (mem w (map own_name (wrapper_of b).sides)) → KnownBy outside_names s w → ⊥
  own_unknown w o (is_low k) = omega (arith, (own_low w o).0)
  own_unknown w o (is_brought k) = omega (arith, (own_low w o).1, (outside_range w (in_outside w k)).0)
  own_unknown w o (has_left k e) = omega (arith, (own_low w o).1, minted_high w k)

  -- the new names are different, and not known outside
  pub good : ((n : ℕ) → (side s n).core.contents.minted ≤ 256) → Good (new_of b s) (known_all s)
  unfolding new_of
  good few = good_of (new_of b s) (known_all s)
      (apart_app (map own_name (wrapper_of b).sides) (keep (λ x. not (known s x)) (minted_of s)) (apart_map own_name (wrapper_of b).sides (sides_distinct b.wrapper) (λ n m e. omega arith))
      (apart_keep (λ x. not (known s x)) (minted_of s) (apart_minted few))
      (λ x p q. let h = minted_high x (keep_out (λ x. not (known s x)) (minted_of s) x q).0 in omega (arith, (own_low x p).1)))
      (λ x p q. ⊎_elim (λ a. own_unknown x a (known_by outside_names s x q)) (λ a. let r = keep_out (λ x. not (known s x)) (minted_of s) x a in new-unknown x r.0 r.1 (known_by outside_names s x q))
      (mem_cases x (map own_name (wrapper_of b).sides) (keep (λ x. not (known s x)) (minted_of s)) p))
    where
      new-unknown : (x : ℕ) → T (mem x (minted_of s)) → not (known s x) ≡ true → KnownBy outside_names s x → ⊥
      new-unknown x m n (is_low k) = omega (arith, (minted_range x (minted_is s few x m)).0)
      new-unknown x m n (is_brought k) = minted_not_outside x (minted_is s few x m) (in_outside x k)
      new-unknown x m n (has_left k e) = false≢true (ap not (sym e) ∙ n)

-- by computation, and by the ranges
pub names_distinct : NamesDistinct
unfolding NamesDistinct ◌&◌ ◌or◌
names_distinct = (refl, refl, λ x m. go x m (is_outside x) refl)
  where
    go : (x : ℕ) → is_minted x ≡ true → (t : Bool) → is_outside x ≡ t → t ≡ false
    go x m true o = absurd (minted_not_outside x m o)
    go x m false o = refl
