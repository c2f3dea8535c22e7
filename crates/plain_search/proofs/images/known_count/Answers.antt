use Rattle.plain_search.proofs.ImageSteps.{image-known}
use Rattle.plain_search.proofs.images.known_count.Goals as goal

pub returns-in-Some : goal.returns-in-Some
returns-in-Some c =
    image-known c.args.own.now c.args.known.now _ c.symmetry-item.result c.args.m.now c.again.result c.image_of-image.result _ c.loop-symmetry-test.true c.symmetry-item.is
    c.again.ensures c.image_of-image.ensures c.in-Some.ensures
