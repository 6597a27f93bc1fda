use Rattle.std.proofs.Common.{refl}
use Rattle.plan_bytes.specs.Over.{plan_of}
use Rattle.canonical_text.specs.CanonicalText.{canonical_text}
use Rattle.write_lines.proofs.Sinks.{new_counted}
use Rattle.write_plan.proofs.canonical_length.Goals as goal

pub returns : goal.returns
returns c = new_counted (canonical_text (plan_of c.args.plan)) _ _ refl c.put_canonical.ensures
