use Rattle.listing.proofs.Fronts.{search_laws}
use Rattle.listing.proofs.laws.search_laws_stand.Goals as goal

pub returns : goal.returns
returns c = search_laws
