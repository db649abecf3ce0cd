-- A particle that one node adds to a side's words, behind the held ones.
use mathlib.Core.Path.{◌≡◌, ap, ◌∙◌}
use mathlib.Core.List.{List, []}
use Prim.Native.Nat.{ℕ, ◌*◌, ◌≤◌}
use lib.ListN.{length, drop}
use Rattle.model.specs.Basics.{or_else}
use Rattle.model.specs.Values.{Env, at, is_public, word, substitute}
use Rattle.model.specs.Table.{field}
use Rattle.model.specs.Side.{Particle, output, input}
use Rattle.model.specs.Unfolding.{tag_of}
use Rattle.tables.specs.declared.nodes.Node.{Node}
use Rattle.tables.specs.Nodes.{table, NodeIs}
use Rattle.sides.specs.declared.Tag.{Tag as d_tag}
use Rattle.sides.specs.Views.{view_tag}
use Rattle.sides.specs.Stored.{sent_put, input_put}
use Rattle.sides.specs.Environments.{env_of}
use Rattle.sides.proofs.Putting.{RowPut, sent_put_lem, input_put_lem, add_view, add_fits}
use Rattle.sides.proofs.Behind.{behind_sent, behind_input}
use Rattle.sides.proofs.Storing.{sent_length, input_length}
use Rattle.unfolding.specs.declared.Counts.{Counts}
use Rattle.unfolding.specs.Unfolded.{one_particle, value_at, output_at, RowFree, ParticleAdded}

-- the value at node n was read
module _ (ns pool : List ℕ) (n : ℕ) (x : Node) (i : NodeIs ns n x) where
  value_read : (ws : List ℕ) → ws ≡ or_else (at is_public pool x.c) [] → ws ≡ value_at (table ns pool) n
  value_read ws h = h ∙ ap (λ (j : ℕ). or_else (at is_public pool j) []) i.f3

  pub value_fits : (ρ : Env) (ws : List ℕ) → ws ≡ or_else (at is_public pool x.c) [] → length (substitute ρ (value_at (table ns pool) n)) ≤ 16 → length (substitute ρ ws) ≤ 16
  value_fits ρ ws h k = rw (value_read ws h) k

-- A PARTICLE ADDED
module _ (b : ℕ) (e : List ℕ) (d : ℕ) (l : List ℕ) (c : Counts) (o : RowFree b e d l c) (m : List ℕ) (r : Counts) (q : r ≡ one_particle c) where
  -- by any row that is put behind the held ones
  row_added : (p : Particle) (w : List ℕ) → m ≡ w → RowPut l c.particles p w → drop 4608 w ≡ drop 4608 l → length w ≡ length l → ParticleAdded p l c m r
  row_added p w h x k n =
      let y : RowPut l c.particles p m = rw h x in
      record {
        counts = q;
        view = add_view l m c.particles p y o.free;
        fits = add_fits l m c.particles p y o.free o.fits;
        behind = ap (drop 4608) h ∙ k;
        long = ap length h ∙ n;
      }

  pub input_added : (n : ℕ) → m ≡ input_put l (144 * c.particles) b n e d → ParticleAdded (input b n (env_of e d).vals) l c m r
  input_added n h =
      let i : ℕ = c.particles in
      row_added (input b n (env_of e d).vals) (input_put l (144 * i) b n e d) h
      (input_put_lem l i b n e d o.long o.free o.width o.few o.values)
      (behind_input l i b n e d o.free o.few) (input_length l (144 * i) b n e d)

  sent_added : (ch : ℕ) (t : d_tag) (x : List ℕ) → length x ≤ 16 → m ≡ sent_put l (144 * c.particles) b ch t x → ParticleAdded (output b ch (view_tag t) x) l c m r
  sent_added ch t x k h =
      let i : ℕ = c.particles in
      row_added (output b ch (view_tag t) x) (sent_put l (144 * i) b ch t x) h
      (sent_put_lem l i b ch t x o.long o.free k)
      (behind_sent l i b ch t x o.free k) (sent_length l (144 * i) b ch t x)

  -- the output at node n, whose fields and value were read
  pub output_added : (ns pool : List ℕ) (n : ℕ) (x : Node) → NodeIs ns n x → (ch : ℕ) (g : d_tag) (ws : List ℕ) →
      ch ≡ word (env_of e d) (field (table ns pool) n 1) → view_tag g ≡ tag_of (env_of e d) (field (table ns pool) n 2) → ws ≡ or_else (at is_public pool x.c) [] →
      length (substitute (env_of e d) (value_at (table ns pool) n)) ≤ 16 → m ≡ sent_put l (144 * c.particles) b ch g (substitute (env_of e d) ws) →
      ParticleAdded (output_at (table ns pool) n (env_of e d) b) l c m r
  output_added ns pool n x i ch g ws a t h k s =
      rw (← a, ← t, ← value_read ns pool n x i ws h) (sent_added ch g (substitute (env_of e d) ws) (value_fits ns pool n x i (env_of e d) ws h k) s)
