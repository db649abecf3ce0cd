-- Tests of the four fields of a node, and counts of its children: checks 2 to 5 of crate model, for a node that was read.
use Rattle.std.specs.Prelude.{◌≡◌, ◌⊎◌, Bool, true, false, cond, ◌&&◌, ◌||◌, List, ℕ, ◌+◌, ◌<◌, ◌≤◌, min, leb, ltb, eqb, length, get_or}
use Rattle.model.specs.Basics.{◌&◌, ◌or◌, is_done, implies}
use Rattle.model.specs.Values.{at, is_public}
use Rattle.model.specs.Table.{uses}
use Rattle.model.specs.Checks.{pattern_ok}
use Rattle.tables.specs.declared.nodes.Node.{Node}
use Rattle.tables.specs.declared.nodes.Use.{Use}
use Rattle.tables.specs.declared.nodes.Use.TheVariants as by

-- the model's number of a use
abbrev pub use_number : Use → ℕ
use_number by.Unused = 0
use_number by.Child = 1
use_number by.Name = 2
use_number by.Tag = 3
use_number by.Value = 4
use_number by.Pattern = 5

-- what a test of fields says, by a field's use and its word, is what p says of the use's number and the word
abbrev pub TestsFields : (says : Use → ℕ → Bool → Type 0) → (p : ℕ → ℕ → Bool) → Type 0
TestsFields says p = (u : Use) (w : ℕ) (b : Bool) → says u w b → b ≡ p (use_number u) w

-- how a node uses its field i + 1
abbrev pub use_of : Node → ℕ → ℕ
use_of x i = get_or (uses x.word) i 0

-- a test of all four fields of a node, by their use and their word
unfoldable pub four_fields : (ℕ → ℕ → Bool) → Node → Bool
four_fields f x = f (use_of x 0) x.a & (f (use_of x 1) x.b & (f (use_of x 2) x.c & f (use_of x 3) x.d))

-- a test says b of the word w as the field i + 1 of a node
pub record SaysField (says : Use → ℕ → Bool → Type 0) (x : Node) (i w : ℕ) (b : Bool) : Type 0 where
  pub by_use : Use
  pub used : use_number by_use ≡ use_of x i
  pub said : says by_use w b

-- r is whether one of two tests passes, by what each of them says
abbrev pub OneOf : (a b : Bool → Type 0) → (r : Bool) → Type 0
OneOf a b true = a true ⊎ b true
OneOf a b false = a false × b false

-- r is whether a field of a node passes a test, by what that says of each of the four
abbrev pub AnyField : (says : Use → ℕ → Bool → Type 0) → Node → (r : Bool) → Type 0
AnyField says x = OneOf (OneOf (OneOf (SaysField says x 0 x.a) (SaysField says x 1 x.b)) (SaysField says x 2 x.c)) (SaysField says x 3 x.d)

-- a test of one of the four fields passes
unfoldable pub any_field : (ℕ → ℕ → Bool) → Node → Bool
any_field f x = f (use_of x 0) x.a || (f (use_of x 1) x.b || (f (use_of x 2) x.c || f (use_of x 3) x.d))

-- check 2 of a field: used, or 0
abbrev pub unused_ok : ℕ → ℕ → Bool
unused_ok u w = implies (eqb u 0) (eqb w 0)

-- check 2 of a node: a known kind, and unused fields 0
unfoldable pub kind_ok : Node → Bool
kind_ok x = leb x.word 6 & four_fields unused_ok x

-- check 3 of a field of node n, of c: no child, or one above n and in the table
abbrev pub child_ok : (n c : ℕ) → ℕ → ℕ → Bool
child_ok n c u w = implies (eqb u 1) (ltb n w & ltb w c)

-- check 3 of node n, of c, which is a child k times
unfoldable pub tree_ok : (n c k : ℕ) → Node → Bool
tree_ok n c k x = four_fields (child_ok n c) x & (eqb n 0 or eqb k 1)

-- check 4 of a field: a name up to 63, a tag up to 65
abbrev pub name_ok : ℕ → ℕ → Bool
name_ok u w = implies (eqb u 2) (leb w 63) & implies (eqb u 3) (leb w 65)

-- check 5 of a field: a value or a pattern stands at its place
abbrev pub place_ok : List ℕ → ℕ → ℕ → Bool
place_ok pool u w = implies (eqb u 4) (is_done (at is_public pool w)) & implies (eqb u 5) (pattern_ok pool w)

-- how often m is a child by a field: 1 where the field is a child field that names m
abbrev pub child_by : (u w m : ℕ) → ℕ
child_by u w m = cond (eqb u 1 && eqb w m) 1 0

-- how often m is a child of a node
abbrev pub child_of : Node → ℕ → ℕ
child_of x m = child_by (use_of x 0) x.a m + (child_by (use_of x 1) x.b m + (child_by (use_of x 2) x.c m + child_by (use_of x 3) x.d m))

-- the counts r are the counts `old`, each up to 2, and k more of them for each node m
pub record Counted (old : List ℕ) (k : ℕ → ℕ) (r : List ℕ) : Type 0 where
  pub len : length r ≡ length old
  pub at : (m : ℕ) → m < length old → get_or old m 0 ≤ 2 → get_or r m 0 ≡ min 2 (get_or old m 0 + k m)
