use Rattle.plan.proofs.RecordTests.{body-few, numbers-judged}
use Rattle.plan.proofs.reading.numbers_fit.Goals as goal

pub without_gaps-requires : goal.without_gaps-requires
without_gaps-requires c = search body-few

pub returns-then-has_record : goal.returns-then-has_record
returns-then-has_record c = search numbers-judged
