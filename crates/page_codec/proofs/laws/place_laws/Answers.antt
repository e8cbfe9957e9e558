use Rattle.page_codec.proofs.GatePlaces.{gate_place-small}
use Rattle.page_codec.proofs.laws.place_laws.Goals as goal

pub returns : goal.returns
returns c = gate_place-small
