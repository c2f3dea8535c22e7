use Rattle.std.proofs.Common.{◌≡◌, ◌∙◌, ◌++◌, ◌∷◌, [], subst, OnOk}
use Rattle.tournament_record.specs.declared.topic.Topic.TheVariants.{Time}
use Rattle.tournament_record.specs.Heads.{part}
use Rattle.tournament_record.proofs.parts.push_time.Goals as goal

pub returns : goal.returns
returns c =
    subst (λ v. OnOk c.push_part.result (c.push_part.new.parts ≡ c.args.parts.now ++ part Time v ∷ []))
    (c.as_bytes.ensures.value ∙ (c.deref.ensures.0 ∙ c.time_text-text.ensures.bytes)) c.push_part.ensures
