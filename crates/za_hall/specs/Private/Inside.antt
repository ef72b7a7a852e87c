-- What contracts see of the parts of a hall and of a desk.
use Rattle.za_hall.specs.declared.hall.HallParts.{HallParts}
use Rattle.za_hall.specs.declared.desk.DeskParts.{DeskParts}
use Rattle.za_hall.specs.Halls.{HallState, DeskState}

abbrev pub hall_of : HallParts → HallState
hall_of h = record { name = h.board.shared.table_id; given = h.board.shared.key.value.given }

abbrev pub desk_of : DeskParts → DeskState
desk_of d = record { name = d.seat.table_id; number = d.process; view = d.seat.me.0 }
