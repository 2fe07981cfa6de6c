use Rattle.words.specs.WordLaws.{put8}
use Rattle.words.proofs.put64.Goals as goal

pub returns : goal.returns
returns c =
    let s = c.args in
    cc (put8 s.b.now s.i s.x)
