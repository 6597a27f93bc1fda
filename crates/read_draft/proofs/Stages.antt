-- The stage that a record names, as its 64 bytes are lent, and with what the record writes there.
use Prim.Native.Nat.{ℕ, ◌+◌, ◌-◌, ◌*◌, ◌≤◌, ◌<◌}
use native.Mathlib.Omega.{arith}
use mathlib.Core.List.{List}
use mathlib.Core.Path.{◌≡◌, sym, ap, ◌∙◌}
use lib.ListN.{length, take, drop, set, get_or, length-drop, get_or-eq_default}
use lib.Seq.{length-take-le, set_out}
use Rattle.model.specs.Limits.{max_all_stages}
use Rattle.model.specs.Plan.{no_stage}
use Rattle.model.specs.declared.Stage.{Stage}
use Rattle.plan_bytes.specs.Over.{stage_in, stage_size, stages_size, plan_read}
use Rattle.plan_bytes.specs.declared.Frame.{Frame}
use Rattle.plan_bytes.proofs.Over.{stages_there}
use Rattle.plan_bytes.proofs.Stored.{stored, stage_bytes, stage_stored}
use Rattle.plan_text.specs.Draft.{stage_after_record}
use Rattle.plan_text.specs.declared.Record.{Record}
use Rattle.read_draft.specs.StageBytes.{bytes_after}
use Rattle.read_draft.proofs.StageBytes.{after_length, after_read}

module _ (f : Frame) (bytes : List ℕ) (i : ℕ) where
  abbrev stages : List Stage
  stages = (plan_read f bytes).stages

  abbrev lent : List ℕ
  lent = take (i * 64 + 64 - i * 64) (drop (i * 64) bytes)

  pub lent_here : i < max_all_stages → stage_in lent ≡ get_or stages i no_stage
  unfolding plan_read
  lent_here h = sym (stage_bytes bytes i no_stage h)

  pub none_here : max_all_stages ≤ i → no_stage ≡ get_or stages i no_stage
  none_here h = sym (get_or-eq_default stages no_stage {n = i} (omega (arith, stages_there f bytes)))

  pub none_put : (s : Stage) → max_all_stages ≤ i → stages ≡ set stages i s
  none_put s h = sym (set_out stages i s (omega (arith, stages_there f bytes)))

  module _ (h : i < max_all_stages) (whole : length bytes ≡ stages_size) (new : List ℕ) (r : Record) (made : new ≡ bytes_after lent r) where
    lent_length : length lent ≡ stage_size
    lent_length = length-take-le (i * 64 + 64 - i * 64) (drop (i * 64) bytes) (omega (arith, length-drop (i * 64) bytes)) ∙ omega arith

    new_length : length new ≡ stage_size
    new_length = ap length made ∙ after_length lent r lent_length

    pub put_here : (plan_read f (stored (i * 64) (i * 64 + 64 - i * 64) new bytes)).stages ≡ set stages i (stage_after_record (get_or stages i no_stage) r)
    unfolding plan_read
    put_here =
        stage_stored bytes i new new_length h whole
        ∙ ap (set stages i) (ap stage_in made ∙ after_read lent r lent_length ∙ ap (λ s. stage_after_record s r) (lent_here h))
