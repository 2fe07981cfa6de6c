-- No second answer to the block, view and column calls: their answers and every buffer that they are lent to write. Assumes nothing.
use mathlib.Core.Path.{sym, ◌∙◌}
use Rattle.basis.specs.Only.{Only}
use Rattle.appending.proofs.append_block.Kinds as block-kinds
use Rattle.appending.proofs.append_block.Reads as block
use Rattle.appending.proofs.append_view.Kinds as view-kinds
use Rattle.appending.proofs.append_view.Reads as view
use Rattle.appending.proofs.append_column.Kinds as column-kinds
use Rattle.appending.proofs.append_column.Reads as column

pub block-answer : Only block-kinds.ps block-kinds.r block.Post (λ κs z s. z)
block-answer κs a z z' s s' p q = λ i. record { answer = (p.0.answers ∙ sym q.0.answers) i; block = (p.1 ∙ sym q.1) i }

pub block-bytes : Only block-kinds.ps block-kinds.r block.Post (λ κs z s. s.1.1.0.now)
block-bytes κs a z z' s s' p q = p.0.bytes ∙ sym q.0.bytes

pub block-starts : Only block-kinds.ps block-kinds.r block.Post (λ κs z s. s.1.1.1.0.now)
block-starts κs a z z' s s' p q = p.0.starts ∙ sym q.0.starts

pub block-lens : Only block-kinds.ps block-kinds.r block.Post (λ κs z s. s.1.1.1.1.0.now)
block-lens κs a z z' s s' p q = p.0.lens ∙ sym q.0.lens

pub view-answer : Only view-kinds.ps view-kinds.r view.Post (λ κs z s. z)
view-answer κs a z z' s s' p q = p.answers ∙ sym q.answers

pub view-views : Only view-kinds.ps view-kinds.r view.Post (λ κs z s. s.1.0.now)
view-views κs a z z' s s' p q = p.views ∙ sym q.views

pub view-nulls : Only view-kinds.ps view-kinds.r view.Post (λ κs z s. s.1.1.1.1.1.0.now)
view-nulls κs a z z' s s' p q = p.nulls ∙ sym q.nulls

pub column-answer : Only column-kinds.ps column-kinds.r column.Post (λ κs z s. z)
column-answer κs a z z' s s' p q = p.answers ∙ sym q.answers

pub column-views : Only column-kinds.ps column-kinds.r column.Post (λ κs z s. s.1.0.now)
column-views κs a z z' s s' p q = p.views ∙ sym q.views

pub column-bytes : Only column-kinds.ps column-kinds.r column.Post (λ κs z s. s.1.1.0.now)
column-bytes κs a z z' s s' p q = p.bytes ∙ sym q.bytes

pub column-starts : Only column-kinds.ps column-kinds.r column.Post (λ κs z s. s.1.1.1.0.now)
column-starts κs a z z' s s' p q = p.starts ∙ sym q.starts

pub column-lens : Only column-kinds.ps column-kinds.r column.Post (λ κs z s. s.1.1.1.1.0.now)
column-lens κs a z z' s s' p q = p.lens ∙ sym q.lens

pub column-nulls : Only column-kinds.ps column-kinds.r column.Post (λ κs z s. s.1.1.1.1.1.0.now)
column-nulls κs a z z' s s' p q = p.nulls ∙ sym q.nulls
