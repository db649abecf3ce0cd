-- N and V lines, which name a side.
use mathlib.Core.Path.{◌≡◌, refl, sym, ap, ap₂, subst, ◌∙◌}
use mathlib.Core.Bool.{Bool, true, false}
use mathlib.Core.List.{List, [], ◌∷◌, ◌++◌, map}
use mathlib.Core.Option.{Option, none, some}
use Prim.Native.Nat.{ℕ, zero, suc, ◌+◌, ◌-◌, ◌*◌, ◌<◌, ◌≤◌, ◌%◌}
use native.Mathlib.Omega.{arith}
use borrow.Author.Tests.{lt-ltb, eq-eqb}
use lib.Dec.{ltb, eqb}
use lib.ListN.{length, get_or, set, drop, length-append, length-drop, length-map, length-set, get_or-map}
use lib.Seq.{sets, map-set_same}
use Rattle.model.specs.Basics.{◌&◌}
use Rattle.model.specs.Table.{Table}
use Rattle.model.specs.Wrapper.{all_sides}
use Rattle.model.specs.Load.{no_table, table}
use Rattle.model.proofs.Basics.Tests.{both}
use Rattle.sides.proofs.Lists.{map_set}
use Rattle.format.specs.Lines.{Input, between, when, with_table, on_n, on_v}
use Rattle.reading.specs.declared.Places.{Places}
use Rattle.std.specs.declared.option.Option.TheVariants.{Some, None}
use Rattle.reading.specs.Lists.{Lists, lists, laid, places_of, Holds, AfterIs, adds, AddIs}
use Rattle.reading.proofs.TestLaws.{first_fails, second_fails, inside, below, passes, fails}
use Rattle.reading.proofs.LaidLaws.{laid_more}
use Rattle.reading.proofs.NamedLaws.{Names, not_added, added}
use Rattle.reading.proofs.AnswerLaws.{is_fault, is_next, places, same_places, same_lists}

-- A SIDE'S TABLE WITH WORDS MORE
-- what holds of every count holds with one of them put anew
all_set : (P : ℕ → Type 0) (l : List ℕ) (s v : ℕ) → P v → ((k : ℕ) → P (get_or l k 0)) → (k : ℕ) → P (get_or (set l s v) k 0)
all_set P [] s v p h k = h k
all_set P (x ∷ l) zero v p h zero = p
all_set P (x ∷ l) zero v p h (suc k) = h (suc k)
all_set P (x ∷ l) (suc s) v p h zero = h zero
all_set P (x ∷ l) (suc s) v p h (suc k) = all_set P l s v p (λ j. h (suc j)) k

-- f takes a table's nodes or its pool
module _ (f : Table → List ℕ) (ts : List Table) (s : ℕ) (empty : [] ≡ f no_table) where
  found : get_or (map f ts) s [] ≡ f (get_or ts s no_table)
  found = ap (get_or (map f ts) s) empty ∙ get_or-map f ts s no_table

  count : get_or (map length (map f ts)) s 0 ≡ length (f (get_or ts s no_table))
  count = get_or-map length (map f ts) s [] ∙ ap length found

-- t is the table of place s with the words vs more there
module _ (f : Table → List ℕ) (ts : List Table) (s : ℕ) (empty : [] ≡ f no_table) (t : Table) (vs : List ℕ) (more : f t ≡ f (get_or ts s no_table) ++ vs) where
  counts : (n : ℕ) → length vs ≡ n → set (map length (map f ts)) s (get_or (map length (map f ts)) s 0 + n) ≡ map length (map f (set ts s t))
  counts n e =
      let q : get_or (map length (map f ts)) s 0 + n ≡ length (f t) = omega (arith, count f ts s empty, length-append (f (get_or ts s no_table)) vs, ap length more) in
      ap (set (map length (map f ts)) s) q ∙ sym (map_set length (map f ts) s (f t)) ∙ ap (map length) (sym (map_set f ts s t))

  stored : (wide : ℕ) (l : List ℕ) → s < length ts → ((k : ℕ) → get_or (map length (map f ts)) k 0 ≤ wide) → sets (laid wide 0 (map f ts) l) (wide * s + get_or (map length (map f ts)) s 0) vs ≡ laid wide 0 (map f (set ts s t)) l
  stored wide l m h =
      let n = get_or (map length (map f ts)) s 0 in
      let z : wide * s + n ≡ 0 + wide * s + n = omega arith in
      ap (λ (k : ℕ). sets (laid wide 0 (map f ts) l) k vs) z ∙ laid_more wide 0 (map f ts) s vs l (omega (arith, length-map ts f)) h
      ∙ ap (λ (x : List (List ℕ)). laid wide 0 x l) (ap (set (map f ts) s) (ap (λ (y : List ℕ). y ++ vs) (found f ts s empty) ∙ sym more) ∙ sym (map_set f ts s t))

  each : (P : ℕ → Type 0) (n : ℕ) → length vs ≡ n → P (get_or (map length (map f ts)) s 0 + n) → ((k : ℕ) → P (get_or (map length (map f ts)) k 0)) → (k : ℕ) → P (get_or (map length (map f (set ts s t))) k 0)
  each P n e p h k = subst (λ (l : List ℕ). P (get_or l k 0)) (counts n e) (all_set P (map length (map f ts)) s _ p h k)

-- WHAT A LINE GIVES, by the number k that it names
abbrev node_line : Input → List ℕ → (k : ℕ) → Option Input
node_line i ns k =
    let t = table i.loads k in
    when (between 1 2 i.rank & (eqb (length ns) 6 & (between 1 (length all_sides) k & ltb (length t.nodes) 1285)))
    (record { rank = 2; loads = with_table i.loads k (record { nodes = t.nodes ++ drop 1 ns; pool = t.pool }); steps = i.steps })

abbrev pool_line : Input → List ℕ → (k : ℕ) → Option Input
pool_line i ns k =
    let t = table i.loads k in
    when (between 1 3 i.rank & (eqb (length ns) 2 & (between 1 (length all_sides) k & ltb (length t.pool) 1025)))
    (record { rank = 3; loads = with_table i.loads k (record { nodes = t.nodes; pool = t.pool ++ drop 1 ns }); steps = i.steps })

-- an input with another table at place s
abbrev put_table : (rank : ℕ) → Input → ℕ → Table → Input
put_table r i s t = record { rank = r; loads = record { wrapper = i.loads.wrapper; tables = set i.loads.tables s t }; steps = i.steps }

abbrev more_nodes : Input → ℕ → List ℕ → Table
more_nodes i s vs = let t = get_or i.loads.tables s no_table in record { nodes = t.nodes ++ vs; pool = t.pool }

abbrev more_pool : Input → ℕ → List ℕ → Table
more_pool i s vs = let t = get_or i.loads.tables s no_table in record { nodes = t.nodes; pool = t.pool ++ vs }

-- a line's test, by the number of its side and how many words the side has
abbrev test : (high size wide rank : ℕ) (ns : List ℕ) (k count : ℕ) → Bool
test high size wide rank ns k count = between 1 high rank & (eqb (length ns) size & (between 1 (length all_sides) k & ltb count wide))

module _ (high size wide rank : ℕ) (ns counts : List ℕ) where
  -- it fails where the code's does
  test_fails : between 1 high rank & adds size wide counts ns ≡ false → (s n : ℕ) → get_or ns 0 0 ≡ suc s → get_or counts s 0 ≡ n → test high size wide rank ns (suc s) n ≡ false
  unfolding adds
  test_fails e s n q m =
      let place : get_or ns 0 0 - 1 ≡ s = omega arith in
      ap₂ (test high size wide rank ns) (sym q) (sym (ap (λ (k : ℕ). get_or counts k 0) place ∙ m)) ∙ e

  test_passes : (s n : ℕ) → Names size wide counts ns s → get_or counts s 0 ≡ n → between 1 high rank ≡ true → test high size wide rank ns (suc s) n ≡ true
  test_passes s n f m r = both _ _ r (both _ _ (eq-eqb (length ns) size f.sized) (both _ _ (inside 1 (length all_sides) (suc s) (omega arith) (omega (arith, f.place))) (lt-ltb n wide (omega (arith, f.room)))))

module _ (i : Input) (ns : List ℕ) where
  pub n_none : between 1 2 i.rank & adds 6 1285 (places_of i).nodes ns ≡ false → on_n i ns ≡ none
  unfolding on_n
  n_none e = go (get_or ns 0 0) refl
    where
      go : (k : ℕ) → get_or ns 0 0 ≡ k → node_line i ns k ≡ none
      go zero q = fails _ _ (second_fails _ _ (second_fails _ _ (first_fails _ _ (below 1 (length all_sides) 0 (omega arith)))))
      go (suc s) q = fails _ _ (test_fails 2 6 1285 i.rank ns (places_of i).nodes e s _ q (count (λ (x : Table). x.nodes) i.loads.tables s refl))

  pub v_none : between 1 3 i.rank & adds 2 1025 (places_of i).pools ns ≡ false → on_v i ns ≡ none
  unfolding on_v
  v_none e = go (get_or ns 0 0) refl
    where
      go : (k : ℕ) → get_or ns 0 0 ≡ k → pool_line i ns k ≡ none
      go zero q = fails _ _ (second_fails _ _ (second_fails _ _ (first_fails _ _ (below 1 (length all_sides) 0 (omega arith)))))
      go (suc s) q = fails _ _ (test_fails 3 2 1025 i.rank ns (places_of i).pools e s _ q (count (λ (x : Table). x.pool) i.loads.tables s refl))

  n_some : (s : ℕ) → between 1 2 i.rank ≡ true → Names 6 1285 (places_of i).nodes ns s → on_n i ns ≡ some (put_table 2 i s (more_nodes i s (drop 1 ns)))
  unfolding on_n
  n_some s r f = ap (node_line i ns) f.number ∙ passes _ _ (test_passes 2 6 1285 i.rank ns (places_of i).nodes s _ f (count (λ (x : Table). x.nodes) i.loads.tables s refl) r)

  v_some : (s : ℕ) → between 1 3 i.rank ≡ true → Names 2 1025 (places_of i).pools ns s → on_v i ns ≡ some (put_table 3 i s (more_pool i s (drop 1 ns)))
  unfolding on_v
  v_some s r f = ap (pool_line i ns) f.number ∙ passes _ _ (test_passes 3 2 1025 i.rank ns (places_of i).pools s _ f (count (λ (x : Table). x.pool) i.loads.tables s refl) r)

-- WHAT THE LISTS HOLD THEN
module _ (i : Input) (old l : Lists) (h : Holds i old l) (s : ℕ) (vs : List ℕ) (place : s < length all_sides) where
  there : s < length i.loads.tables
  there = omega (arith, h.tables)

  nodes_held : length vs ≡ 5 → get_or (places_of i).nodes s 0 < 1285 → Holds (put_table 2 i s (more_nodes i s vs)) old (lists (sets l.nodes (1285 * s + get_or (places_of i).nodes s 0) vs) l.pools l.steps)
  nodes_held e m =
      let t = more_nodes i s vs in
      let kept = map-set_same (λ (x : Table). x.pool) i.loads.tables s t no_table refl in
      let n = get_or (places_of i).nodes s 0 in
      let a = h.inside.fives s in
      record {
        tables = length-set i.loads.tables s t ∙ h.tables;
        inside = record {
          nodes = each (λ (x : Table). x.nodes) i.loads.tables s refl t vs refl (λ (x : ℕ). x ≤ 1285) 5 e (omega arith) h.inside.nodes;
          fives = each (λ (x : Table). x.nodes) i.loads.tables s refl t vs refl (λ (x : ℕ). x % 5 ≡ 0) 5 e (omega arith) h.inside.fives;
          pools = λ k. subst (λ (x : List (List ℕ)). get_or (map length x) k 0 ≤ 1025) (sym kept) (h.inside.pools k);
          steps = h.inside.steps;
          step_words = h.inside.step_words;
        };
        lists =
            same_lists _ _ _ _ _ _
            (ap (λ (x : Lists). sets x.nodes (1285 * s + n) vs) h.lists ∙ stored (λ (x : Table). x.nodes) i.loads.tables s refl t vs refl 1285 old.nodes there h.inside.nodes)
            (ap (λ (x : Lists). x.pools) h.lists ∙ ap (λ (x : List (List ℕ)). laid 1025 0 x old.pools) (sym kept))
            (ap (λ (x : Lists). x.steps) h.lists);
      }

  pool_held : length vs ≡ 1 → get_or (places_of i).pools s 0 < 1025 → Holds (put_table 3 i s (more_pool i s vs)) old (lists l.nodes (sets l.pools (1025 * s + get_or (places_of i).pools s 0) vs) l.steps)
  pool_held e m =
      let t = more_pool i s vs in
      let kept = map-set_same (λ (x : Table). x.nodes) i.loads.tables s t no_table refl in
      let n = get_or (places_of i).pools s 0 in
      record {
        tables = length-set i.loads.tables s t ∙ h.tables;
        inside = record {
          nodes = λ k. subst (λ (x : List (List ℕ)). get_or (map length x) k 0 ≤ 1285) (sym kept) (h.inside.nodes k);
          fives = λ k. subst (λ (x : List (List ℕ)). get_or (map length x) k 0 % 5 ≡ 0) (sym kept) (h.inside.fives k);
          pools = each (λ (x : Table). x.pool) i.loads.tables s refl t vs refl (λ (x : ℕ). x ≤ 1025) 1 e (omega arith) h.inside.pools;
          steps = h.inside.steps;
          step_words = h.inside.step_words;
        };
        lists =
            same_lists _ _ _ _ _ _
            (ap (λ (x : Lists). x.nodes) h.lists ∙ ap (λ (x : List (List ℕ)). laid 1285 0 x old.nodes) (sym kept))
            (ap (λ (x : Lists). sets x.pools (1025 * s + n) vs) h.lists ∙ stored (λ (x : Table). x.pool) i.loads.tables s refl t vs refl 1025 old.pools there h.inside.pools)
            (ap (λ (x : Lists). x.steps) h.lists);
      }

-- AN N LINE AND A V LINE
abbrev with_nodes : Places → List ℕ → Places
with_nodes p ns = places 2 p.wrapper ns p.pools p.steps p.words

abbrev with_pools : Places → List ℕ → Places
with_pools p ns = places 3 p.wrapper p.nodes ns p.steps p.words

module _ (i : Input) (p : Places) (old l : Lists) (at : p ≡ places_of i) (h : Holds i old l) (ns : List ℕ) where
  -- behind a line of another rank
  pub n_late : between 1 2 p.rank ≡ false → AfterIs i (on_n i ns) None old l
  n_late e = is_fault i _ p old l at h (n_none i ns (first_fails _ _ (ap (λ (x : Places). between 1 2 x.rank) (sym at) ∙ e)))

  pub v_late : between 1 3 p.rank ≡ false → AfterIs i (on_v i ns) None old l
  v_late e = is_fault i _ p old l at h (v_none i ns (first_fails _ _ (ap (λ (x : Places). between 1 3 x.rank) (sym at) ∙ e)))

  pub n_fault : (new : List ℕ) → AddIs 6 1285 p.nodes ns l.nodes new None → AfterIs i (on_n i ns) None old (lists new l.pools l.steps)
  n_fault new a =
      let f = not_added _ _ _ _ _ _ a in
      let e : adds 6 1285 (places_of i).nodes ns ≡ false = ap (λ (x : Places). adds 6 1285 x.nodes ns) (sym at) ∙ f.0 in
      subst (λ (x : List ℕ). AfterIs i (on_n i ns) None old (lists x l.pools l.steps)) (sym f.1) (is_fault i _ p old l at h (n_none i ns (second_fails _ _ e)))

  pub v_fault : (new : List ℕ) → AddIs 2 1025 p.pools ns l.pools new None → AfterIs i (on_v i ns) None old (lists l.nodes new l.steps)
  v_fault new a =
      let f = not_added _ _ _ _ _ _ a in
      let e : adds 2 1025 (places_of i).pools ns ≡ false = ap (λ (x : Places). adds 2 1025 x.pools ns) (sym at) ∙ f.0 in
      subst (λ (x : List ℕ). AfterIs i (on_v i ns) None old (lists l.nodes x l.steps)) (sym f.1) (is_fault i _ p old l at h (v_none i ns (second_fails _ _ e)))

  pub n_taken : (new counts : List ℕ) → between 1 2 p.rank ≡ true → AddIs 6 1285 p.nodes ns l.nodes new (Some counts) → AfterIs i (on_n i ns) (Some (with_nodes p counts)) old (lists new l.pools l.steps)
  n_taken new counts_then r a =
      let b = subst (λ (x : Places). AddIs 6 1285 x.nodes ns l.nodes new (Some counts_then)) at a in
      let f = added _ _ _ _ _ _ _ b in
      let s = f.0 in
      let ts = i.loads.tables in
      let vs = drop 1 ns in
      let t = more_nodes i s vs in
      let size : length vs ≡ 5 = omega (arith, f.1.sized, length-drop 1 ns) in
      is_next i _ _ old _ (put_table 2 i s t) (n_some i ns s (ap (λ (x : Places). between 1 2 x.rank) (sym at) ∙ r) f.1)
      (ap (λ (x : Places). with_nodes x counts_then) at ∙ same_places _ _ _ _ _ _ _ _ _ _ (f.2 ∙ counts (λ (x : Table). x.nodes) ts s refl t vs refl 5 size) (ap (map length) (sym (map-set_same (λ (x : Table). x.pool) ts s t no_table refl))) refl refl)
      (subst (λ (x : List ℕ). Holds (put_table 2 i s t) old (lists x l.pools l.steps)) (sym f.3) (nodes_held i old l h s vs f.1.place size f.1.room))

  pub v_taken : (new counts : List ℕ) → between 1 3 p.rank ≡ true → AddIs 2 1025 p.pools ns l.pools new (Some counts) → AfterIs i (on_v i ns) (Some (with_pools p counts)) old (lists l.nodes new l.steps)
  v_taken new counts_then r a =
      let b = subst (λ (x : Places). AddIs 2 1025 x.pools ns l.pools new (Some counts_then)) at a in
      let f = added _ _ _ _ _ _ _ b in
      let s = f.0 in
      let ts = i.loads.tables in
      let vs = drop 1 ns in
      let t = more_pool i s vs in
      let size : length vs ≡ 1 = omega (arith, f.1.sized, length-drop 1 ns) in
      is_next i _ _ old _ (put_table 3 i s t) (v_some i ns s (ap (λ (x : Places). between 1 3 x.rank) (sym at) ∙ r) f.1)
      (ap (λ (x : Places). with_pools x counts_then) at ∙ same_places _ _ _ _ _ _ _ _ _ _ (ap (map length) (sym (map-set_same (λ (x : Table). x.nodes) ts s t no_table refl))) (f.2 ∙ counts (λ (x : Table). x.pool) ts s refl t vs refl 1 size) refl refl)
      (subst (λ (x : List ℕ). Holds (put_table 3 i s t) old (lists l.nodes x l.steps)) (sym f.3) (pool_held i old l h s vs f.1.place size f.1.room))
