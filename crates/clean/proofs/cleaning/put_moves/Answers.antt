use Rattle.sheet.proofs.Pieces.{put-start}
use Rattle.clean.proofs.Writing.{move-room, move-more}
use Rattle.clean.proofs.cleaning.put_moves.Goals as goal

pub loop-v-init : goal.loop-v-init
loop-v-init c = put-start _ _ _ _

pub put_record-at-requires : goal.put_record-at-requires
put_record-at-requires c = search move-room

pub loop-v-preserved : goal.loop-v-preserved
loop-v-preserved c = search move-more
