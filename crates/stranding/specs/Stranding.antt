-- What is stranded after a load and a list of steps by words (document 02, 2.5).
use Rattle.std.specs.Prelude.{◌≡◌, List, ℕ, Ok, Err}
use Rattle.std.specs.declared.result.Result.{Result}
use Rattle.std.proofs.Math.Option.{Option, none, some}
use Rattle.model.specs.Basics.{Res, refuse, done}
use Rattle.model.specs.Side.{State}
use Rattle.model.specs.Load.{Composition, Refused, Loaded, refused, ok, load}
use Rattle.model.specs.Step.{Step}
use Rattle.model.specs.Runs.{after_all}
use Rattle.model.specs.Stranded.{stranded_all}
use Rattle.format.specs.Words.{steps_of}
use Rattle.listing.specs.Listing.{listing, listed_on}
use Rattle.loading.specs.Loading.{told_by}
use Rattle.stranding.specs.declared.AfterError.{AfterError}
use Rattle.stranding.specs.declared.AfterError.TheVariants.{Unloaded, BrokenOff, TooShort}

-- the state behind some steps from s on; none where their list breaks off. A refused step changes nothing, and those after it go on
abbrev pub behind : Composition → (s : State) → Option (List Step) → Option State
behind b s none = none
behind b s (some xs) = some (after_all b s xs)

-- what it comes to: load refuses, the list of steps breaks off, or what is told of the state behind them
pub data Ended (A : Type 0) : Type 0 where
  unloaded : Refused → Ended A
  broken_off : Ended A
  told : A → Ended A

-- the stranded positions of side n in the state behind the steps
abbrev pub positions_in : Composition → (n : ℕ) → Option State → Ended (List ℕ)
positions_in b n none = broken_off
positions_in b n (some s) = told (stranded_all b (some s) n)

-- the same from what load gives
abbrev pub positions_from : Composition → (steps : List ℕ) → (n : ℕ) → Loaded → Ended (List ℕ)
positions_from b ws n (refused e) = unloaded e
positions_from b ws n (ok s) = positions_in b n (behind b s (steps_of ws))

-- THE QUESTION: the stranded positions of side n after a load and some steps
unfoldable pub stranded_after : Composition → (steps : List ℕ) → (n : ℕ) → Ended (List ℕ)
stranded_after b ws n = positions_from b ws n (load b)

-- how many are put into a lent list, or 22
abbrev pub count_for : Ended (List ℕ) → (lent : List ℕ) → Ended (Res ℕ)
count_for (unloaded e) lent = unloaded e
count_for broken_off lent = broken_off
count_for (told ps) lent = told (listing ps lent)

-- the lent list after it; as it was where there are no positions to put
abbrev pub lent_after : Ended (List ℕ) → (lent : List ℕ) → List ℕ
lent_after (unloaded e) lent = lent
lent_after broken_off lent = lent
lent_after (told ps) lent = listed_on ps lent

-- what the result says
abbrev pub after_of : Result ℕ AfterError → Ended (Res ℕ)
after_of (Ok n) = told (done n)
after_of (Err (Unloaded f)) = unloaded (told_by f)
after_of (Err BrokenOff) = broken_off
after_of (Err TooShort) = told (refuse 22)

-- r is the answer, and the lent list is as it is to be after it
pub record AfterIs (x : Ended (List ℕ)) (lent after : List ℕ) (r : Result ℕ AfterError) : Type 0 where
  pub answer : after_of r ≡ count_for x lent
  pub words : after ≡ lent_after x lent
