use Rattle.cube_forms.proofs.RoomLemmas.{thin-room}
use Rattle.cube_forms.proofs.laws.thin_cubes_have_room.Goals as goal

pub returns : goal.returns
returns c = thin-room
