-- What is read of a stream, and what is shown of it.
use Rattle.std.specs.Prelude.{Bool}
use Rattle.pgpipe_show.specs.declared.form.Form.{Form}
use Rattle.pgpipe_show.specs.declared.form.Form.TheVariants as forms

-- what is shown, of a client (true) or of a backend
pub record Way : Type 0 where
  pub form : Form
  pub front : Bool

-- the messages and packets of the tables
abbrev pub messages_of : Bool → Way
messages_of front = record { form = forms.Messages; front = front }
