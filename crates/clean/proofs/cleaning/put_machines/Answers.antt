use Rattle.sheet.proofs.Pieces.{put-start}
use Rattle.clean.proofs.Writing.{machine-room, machine-more}
use Rattle.clean.proofs.cleaning.put_machines.Goals as goal

pub loop-i-init : goal.loop-i-init
loop-i-init c = put-start _ _ _ _

pub put_record-at-requires : goal.put_record-at-requires
put_record-at-requires c = search machine-room

pub loop-i-preserved : goal.loop-i-preserved
loop-i-preserved c = search machine-more
