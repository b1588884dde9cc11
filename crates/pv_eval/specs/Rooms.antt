-- The frame of a block at work.
use Rattle.pv_mean.specs.Frames.{Frame}
use Rattle.pv_eval.specs.declared.room.Room.{Room}

abbrev pub frame_of : Room → Frame
frame_of room = record { visible = room.visible.now; brief = room.brief.now }
