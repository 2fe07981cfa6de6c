-- Which first place of an answer is that of a refusal. Assumes nothing.
use Rattle.std.specs.Prelude.{Bool, true, false}
use Rattle.whole.specs.declared.Place.{Place}
use Rattle.whole.specs.declared.Place.TheVariants.{Refused, Opening, Line, Part, End}

abbrev pub is_refusal : Place → Bool
is_refusal (Refused n) = true
is_refusal Opening = false
is_refusal (Line k) = false
is_refusal (Part k at) = false
is_refusal End = false
