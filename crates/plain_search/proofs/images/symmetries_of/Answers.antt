use Rattle.plain_search.proofs.ImageSteps.{own-here, own-none}
use Rattle.plain_search.proofs.images.symmetries_of.Goals as goal

pub returns-then-has_few_pieces : goal.returns-then-has_few_pieces
returns-then-has_few_pieces g c = own-here _ _ _ c.key.ensures.sound.board c.key.ensures.key c.own_symmetries.ensures

pub returns-else-has_few_pieces : goal.returns-else-has_few_pieces
returns-else-has_few_pieces g c = own-none _ _ c.new.ensures
