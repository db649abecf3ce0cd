-- The trials of lent lists, by computation.
use mathlib.Core.Path.{refl}
use Rattle.model.specs.Basics.{choose, need}
use Rattle.listing.specs.Listing.{listing, listed_on}
use Rattle.listing.specs.ListTrials.{ListTrials}

pub list_trials_pass : ListTrials
unfolding choose need listing listed_on ListTrials
list_trials_pass = (refl, refl)
