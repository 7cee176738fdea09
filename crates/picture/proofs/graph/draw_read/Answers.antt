use borrow.Author.Rules.{rules}
use Rattle.picture.proofs.SheetDrawn.{machines-inside, machines-counted, machines-few, groups-inside}
use Rattle.picture.proofs.SheetDrawn.{groups-counted, groups-shown, picture-shown}
use Rattle.picture.proofs.graph.draw_read.Goals as goal

pub slice_bounds-numbers-end : goal.slice_bounds-numbers-end
slice_bounds-numbers-end c = search (machines-inside, rules)

pub slice_bounds-count-end : goal.slice_bounds-count-end
slice_bounds-count-end c = search (machines-counted, rules)

pub count-groups-requires : goal.count-groups-requires
count-groups-requires c = search (machines-few, rules)

pub slice_bounds-numbers-end-2 : goal.slice_bounds-numbers-end-2
slice_bounds-numbers-end-2 c = search (machines-inside, rules)

pub slice_bounds-write_text-end : goal.slice_bounds-write_text-end
slice_bounds-write_text-end c = search (machines-counted, rules)

pub slice_bounds-targets-end : goal.slice_bounds-targets-end
slice_bounds-targets-end c = search groups-inside

pub slice_bounds-write_text-end-2 : goal.slice_bounds-write_text-end-2
slice_bounds-write_text-end-2 c = search groups-counted

pub write_text-requires : goal.write_text-requires
write_text-requires c = search groups-shown

pub returns : goal.returns
returns c = let ordered = c.ordered-numbers in
    let told = ordered.ensures in
    let shows = picture-shown _ told.numbers told.targets ordered.auto.targets c.count-groups.ensures in
    let wrote = c.write_text.ensures in record {
      reply = λ m i. rw (shows m i) at wrote.reply;
      written = λ m i. rw (shows m i) at wrote.written;
    }
