-- What a task is about, and what its streams have.
use Rattle.std.specs.Prelude.{Bool, if◌then◌else◌}
use Rattle.pgpipe_convert.specs.declared.format.Format.{Format}
use Rattle.pgpipe_convert.specs.declared.format.Format.TheVariants as format
use Rattle.pgpipe_explain.specs.declared.tracker.TrackedKind.{TrackedKind}
use Rattle.pgpipe_explain.specs.declared.tracker.TrackedKind.TheVariants as kind
use Rattle.pgpipe_reasons.specs.declared.explaining.Subject.{Subject}
use Rattle.pgpipe_reasons.specs.declared.explaining.Subject.TheVariants as subject
use Rattle.pgpipe_tasks.specs.declared.tasks.Task.{Task}
use Rattle.pgpipe_tasks.specs.declared.tasks.Task.TheVariants as task

-- what a task is about; with `true` the files of a loop may have comments
abbrev pub subject_of : Task → Subject
subject_of (task.Show s) = subject.Show s.front s.summary
subject_of (task.Convert c) = subject.Convert c.from c.to
subject_of (task.Loop l) = subject.Loop l.comments
subject_of (task.Serve s) = subject.Serve

-- the messages of a client's stream (true) or of a server's
abbrev pub stream_messages : Bool → TrackedKind
stream_messages front = if front then kind.Front else kind.Back

-- the rows of a file of this format
abbrev pub rows_of : Format → TrackedKind
rows_of format.Text = kind.Text
rows_of format.Binary = kind.Binary

-- what the input has; a loop and a server read nothing of it
abbrev pub input_of : Subject → TrackedKind
input_of (subject.Show front summary) = stream_messages front
input_of (subject.Convert from to) = rows_of from
input_of (subject.Loop comments) = kind.Back
input_of subject.Serve = kind.Back

-- what the output gets: lines, or the rows of a file
abbrev pub output_of : Subject → TrackedKind
output_of (subject.Show front summary) = kind.Text
output_of (subject.Convert from to) = rows_of to
output_of (subject.Loop comments) = kind.Text
output_of subject.Serve = kind.Text
