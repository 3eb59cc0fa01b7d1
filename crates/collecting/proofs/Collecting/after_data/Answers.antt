use mathlib.Core.Path.{sym, ap, ◌∙◌}
use Rattle.collecting.specs.declared.Collecting.{Collecting}
use Rattle.collecting.specs.Collecting.{data_next}
use Rattle.collecting.proofs.Collecting.after_data.Goals as goal

pub returns-in-Idle : goal.returns-in-Idle
unfolding data_next
returns-in-Idle c = let a = c.args in sym (ap (λ (s : Collecting). data_next s a.fits a.last) c.in-Idle.is)

pub returns-in-InCommand : goal.returns-in-InCommand
unfolding data_next
returns-in-InCommand c = let a = c.args in sym (ap (λ (s : Collecting). data_next s a.fits a.last) c.in-InCommand.is)

pub returns-in-SkippingCommand : goal.returns-in-SkippingCommand
unfolding data_next
returns-in-SkippingCommand c = let a = c.args in sym (ap (λ (s : Collecting). data_next s a.fits a.last) c.in-SkippingCommand.is)

pub returns-in-InData : goal.returns-in-InData
unfolding data_next
returns-in-InData c = let a = c.args in c.stores_to.ensures ∙ sym (ap (λ (s : Collecting). data_next s a.fits a.last) c.in-InData.is)

pub returns-in-SkippingData : goal.returns-in-SkippingData
unfolding data_next
returns-in-SkippingData c = let a = c.args in c.stores_to-in-SkippingData.ensures ∙ sym (ap (λ (s : Collecting). data_next s a.fits a.last) c.in-SkippingData.is)
