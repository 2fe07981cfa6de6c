-- No second answer to an exported builder call, nor a second content of the state's numbers or of a buffer that it is lent to write. Assumes nothing.
use mathlib.Core.Path.{sym, ◌∙◌}
use Rattle.basis.specs.Only.{Only}
use Rattle.builder_exports.proofs.tambuyeel_append_value.Kinds as value-kinds
use Rattle.builder_exports.proofs.tambuyeel_append_value.Reads as value
use Rattle.builder_exports.proofs.tambuyeel_append_values.Kinds as values-kinds
use Rattle.builder_exports.proofs.tambuyeel_append_values.Reads as values
use Rattle.builder_exports.proofs.tambuyeel_append_null.Kinds as null-kinds
use Rattle.builder_exports.proofs.tambuyeel_append_null.Reads as null
use Rattle.builder_exports.proofs.tambuyeel_append_view.Kinds as view-kinds
use Rattle.builder_exports.proofs.tambuyeel_append_view.Reads as view
use Rattle.builder_exports.proofs.tambuyeel_append_block.Kinds as block-kinds
use Rattle.builder_exports.proofs.tambuyeel_append_block.Reads as block
use Rattle.builder_exports.proofs.tambuyeel_append_column.Kinds as column-kinds
use Rattle.builder_exports.proofs.tambuyeel_append_column.Reads as column
use Rattle.builder_exports.proofs.tambuyeel_finish.Kinds as finish-kinds
use Rattle.builder_exports.proofs.tambuyeel_finish.Reads as finish
use Rattle.builder_exports.proofs.tambuyeel_finish_by_copy.Kinds as copy-kinds
use Rattle.builder_exports.proofs.tambuyeel_finish_by_copy.Reads as copy
use Rattle.builder_exports.proofs.tambuyeel_start.Kinds as start-kinds
use Rattle.builder_exports.proofs.tambuyeel_start.Reads as start
use Rattle.builder_exports.proofs.tambuyeel_get_value.Kinds as get-kinds
use Rattle.builder_exports.proofs.tambuyeel_get_value.Reads as get

pub start-number : Only start-kinds.ps start-kinds.r start.Post (λ κs z s. z)
start-number κs a z z' s s' p q = p.0 ∙ sym q.0

pub start-state : Only start-kinds.ps start-kinds.r start.Post (λ κs z s. s.1.0.now)
start-state κs a z z' s s' p q = p.1 ∙ sym q.1

pub start-places : Only start-kinds.ps start-kinds.r start.Post (λ κs z s. s.1.1.0.now)
start-places κs a z z' s s' p q = p.2 ∙ sym q.2

pub value-number : Only value-kinds.ps value-kinds.r value.Post (λ κs z s. z)
value-number κs a z z' s s' p q = p.number ∙ sym q.number

pub value-state : Only value-kinds.ps value-kinds.r value.Post (λ κs z s. s.0.now)
value-state κs a z z' s s' p q = p.state ∙ sym q.state

pub value-views : Only value-kinds.ps value-kinds.r value.Post (λ κs z s. s.1.0.now)
value-views κs a z z' s s' p q = p.views ∙ sym q.views

pub value-bytes : Only value-kinds.ps value-kinds.r value.Post (λ κs z s. s.1.1.0.now)
value-bytes κs a z z' s s' p q = p.bytes ∙ sym q.bytes

pub value-starts : Only value-kinds.ps value-kinds.r value.Post (λ κs z s. s.1.1.1.0.now)
value-starts κs a z z' s s' p q = p.starts ∙ sym q.starts

pub value-lens : Only value-kinds.ps value-kinds.r value.Post (λ κs z s. s.1.1.1.1.0.now)
value-lens κs a z z' s s' p q = p.lens ∙ sym q.lens

pub value-nulls : Only value-kinds.ps value-kinds.r value.Post (λ κs z s. s.1.1.1.1.1.0.now)
value-nulls κs a z z' s s' p q = p.nulls ∙ sym q.nulls

pub value-places : Only value-kinds.ps value-kinds.r value.Post (λ κs z s. s.1.1.1.1.1.1.0.now)
value-places κs a z z' s s' p q = p.places ∙ sym q.places

pub values-number : Only values-kinds.ps values-kinds.r values.Post (λ κs z s. z)
values-number κs a z z' s s' p q = p.number ∙ sym q.number

pub values-state : Only values-kinds.ps values-kinds.r values.Post (λ κs z s. s.0.now)
values-state κs a z z' s s' p q = p.state ∙ sym q.state

pub values-views : Only values-kinds.ps values-kinds.r values.Post (λ κs z s. s.1.0.now)
values-views κs a z z' s s' p q = p.views ∙ sym q.views

pub values-bytes : Only values-kinds.ps values-kinds.r values.Post (λ κs z s. s.1.1.0.now)
values-bytes κs a z z' s s' p q = p.bytes ∙ sym q.bytes

pub values-starts : Only values-kinds.ps values-kinds.r values.Post (λ κs z s. s.1.1.1.0.now)
values-starts κs a z z' s s' p q = p.starts ∙ sym q.starts

pub values-lens : Only values-kinds.ps values-kinds.r values.Post (λ κs z s. s.1.1.1.1.0.now)
values-lens κs a z z' s s' p q = p.lens ∙ sym q.lens

pub values-nulls : Only values-kinds.ps values-kinds.r values.Post (λ κs z s. s.1.1.1.1.1.0.now)
values-nulls κs a z z' s s' p q = p.nulls ∙ sym q.nulls

pub values-places : Only values-kinds.ps values-kinds.r values.Post (λ κs z s. s.1.1.1.1.1.1.0.now)
values-places κs a z z' s s' p q = p.places ∙ sym q.places

pub null-number : Only null-kinds.ps null-kinds.r null.Post (λ κs z s. z)
null-number κs a z z' s s' p q = p.number ∙ sym q.number

pub null-state : Only null-kinds.ps null-kinds.r null.Post (λ κs z s. s.0.now)
null-state κs a z z' s s' p q = p.state ∙ sym q.state

pub null-views : Only null-kinds.ps null-kinds.r null.Post (λ κs z s. s.1.0.now)
null-views κs a z z' s s' p q = p.views ∙ sym q.views

pub null-nulls : Only null-kinds.ps null-kinds.r null.Post (λ κs z s. s.1.1.1.1.1.0.now)
null-nulls κs a z z' s s' p q = p.nulls ∙ sym q.nulls

pub view-number : Only view-kinds.ps view-kinds.r view.Post (λ κs z s. z)
view-number κs a z z' s s' p q = p.number ∙ sym q.number

pub view-state : Only view-kinds.ps view-kinds.r view.Post (λ κs z s. s.0.now)
view-state κs a z z' s s' p q = p.state ∙ sym q.state

pub view-views : Only view-kinds.ps view-kinds.r view.Post (λ κs z s. s.1.0.now)
view-views κs a z z' s s' p q = p.views ∙ sym q.views

pub view-nulls : Only view-kinds.ps view-kinds.r view.Post (λ κs z s. s.1.1.1.1.1.0.now)
view-nulls κs a z z' s s' p q = p.nulls ∙ sym q.nulls

pub block-number : Only block-kinds.ps block-kinds.r block.Post (λ κs z s. z)
block-number κs a z z' s s' p q = λ i. record { refused = (p.0.number ∙ sym q.0.number) i; number = (p.1 ∙ sym q.1) i }

pub block-state : Only block-kinds.ps block-kinds.r block.Post (λ κs z s. s.0.now)
block-state κs a z z' s s' p q = p.0.state ∙ sym q.0.state

pub block-bytes : Only block-kinds.ps block-kinds.r block.Post (λ κs z s. s.1.1.0.now)
block-bytes κs a z z' s s' p q = p.0.bytes ∙ sym q.0.bytes

pub block-starts : Only block-kinds.ps block-kinds.r block.Post (λ κs z s. s.1.1.1.0.now)
block-starts κs a z z' s s' p q = p.0.starts ∙ sym q.0.starts

pub block-lens : Only block-kinds.ps block-kinds.r block.Post (λ κs z s. s.1.1.1.1.0.now)
block-lens κs a z z' s s' p q = p.0.lens ∙ sym q.0.lens

pub column-told : Only column-kinds.ps column-kinds.r column.Post (λ κs z s. z)
column-told κs a z z' s s' p q = p.1 ∙ sym q.1

pub column-state : Only column-kinds.ps column-kinds.r column.Post (λ κs z s. s.0.now)
column-state κs a z z' s s' p q = p.0.state ∙ sym q.0.state

pub column-views : Only column-kinds.ps column-kinds.r column.Post (λ κs z s. s.1.0.now)
column-views κs a z z' s s' p q = p.0.views ∙ sym q.0.views

pub column-bytes : Only column-kinds.ps column-kinds.r column.Post (λ κs z s. s.1.1.0.now)
column-bytes κs a z z' s s' p q = p.0.bytes ∙ sym q.0.bytes

pub column-starts : Only column-kinds.ps column-kinds.r column.Post (λ κs z s. s.1.1.1.0.now)
column-starts κs a z z' s s' p q = p.0.starts ∙ sym q.0.starts

pub column-lens : Only column-kinds.ps column-kinds.r column.Post (λ κs z s. s.1.1.1.1.0.now)
column-lens κs a z z' s s' p q = p.0.lens ∙ sym q.0.lens

pub column-nulls : Only column-kinds.ps column-kinds.r column.Post (λ κs z s. s.1.1.1.1.1.0.now)
column-nulls κs a z z' s s' p q = p.0.nulls ∙ sym q.0.nulls

pub finish-number : Only finish-kinds.ps finish-kinds.r finish.Post (λ κs z s. z)
finish-number κs a z z' s s' p q = p.0.number ∙ sym q.0.number

pub finish-state : Only finish-kinds.ps finish-kinds.r finish.Post (λ κs z s. s.0.now)
finish-state κs a z z' s s' p q = p.0.state ∙ sym q.0.state

pub finish-starts : Only finish-kinds.ps finish-kinds.r finish.Post (λ κs z s. s.1.1.1.0.now)
finish-starts κs a z z' s s' p q = p.0.starts ∙ sym q.0.starts

pub finish-lens : Only finish-kinds.ps finish-kinds.r finish.Post (λ κs z s. s.1.1.1.1.0.now)
finish-lens κs a z z' s s' p q = p.0.lens ∙ sym q.0.lens

pub finish-places : Only finish-kinds.ps finish-kinds.r finish.Post (λ κs z s. s.1.1.1.1.1.1.0.now)
finish-places κs a z z' s s' p q = p.0.places ∙ sym q.0.places

pub finish-column : Only finish-kinds.ps finish-kinds.r finish.Post (λ κs z s. s.1.1.1.1.1.1.1.0.now)
finish-column κs a z z' s s' p q = p.1 ∙ sym q.1

pub copy-number : Only copy-kinds.ps copy-kinds.r copy.Post (λ κs z s. z)
copy-number κs a z z' s s' p q = p.0.number ∙ sym q.0.number

pub copy-state : Only copy-kinds.ps copy-kinds.r copy.Post (λ κs z s. s.0.now)
copy-state κs a z z' s s' p q = p.0.state ∙ sym q.0.state

pub copy-starts : Only copy-kinds.ps copy-kinds.r copy.Post (λ κs z s. s.1.1.1.0.now)
copy-starts κs a z z' s s' p q = p.0.starts ∙ sym q.0.starts

pub copy-lens : Only copy-kinds.ps copy-kinds.r copy.Post (λ κs z s. s.1.1.1.1.0.now)
copy-lens κs a z z' s s' p q = p.0.lens ∙ sym q.0.lens

pub copy-column : Only copy-kinds.ps copy-kinds.r copy.Post (λ κs z s. s.1.1.1.1.1.1.1.0.now)
copy-column κs a z z' s s' p q = p.1 ∙ sym q.1

pub get-place : Only get-kinds.ps get-kinds.r get.Post (λ κs z s. z)
get-place κs a z z' s s' p q = p ∙ sym q
