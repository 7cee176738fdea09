use Rattle.picture.proofs.Replies.{pictures-right}
use Rattle.picture.proofs.promises.pictures_are_right.Goals as goal

pub returns : goal.returns
returns c = pictures-right
