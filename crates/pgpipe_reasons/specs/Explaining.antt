-- Why a task failed, in a second line.
use Rattle.std.specs.Prelude.{ℕ, ◌==◌, Bool, true, false, if◌then◌else◌, List, Option, Some, None, option_map}
use Rattle.pg_wire.specs.declared.fault.WireFault.{WireFault}
use Rattle.pgpipe_convert.specs.declared.format.Format.{Format}
use Rattle.pgpipe_convert.specs.declared.format.Format.TheVariants as format
use Rattle.pgpipe_explain.specs.declared.place.Place.{Place}
use Rattle.pgpipe_explain.specs.declared.guess.Guess.{Guess}
use Rattle.pgpipe_explain.specs.declared.rule.Rule.{Rule}
use Rattle.pgpipe_explain.specs.declared.rule.Rule.TheVariants as rule
use Rattle.pgpipe_explain.specs.Faults.{back_rule, binary_rule, front_rule, option_rule, row_rule, script_rule, text_rule}
use Rattle.pgpipe_explain.specs.Guess.{guess_of, side_guess}
use Rattle.pgpipe_show.specs.declared.both.place.FramePlace.{FramePlace}
use Rattle.pgpipe_show.specs.declared.both.printing.BothPlaces.{BothPlaces}
use Rattle.pgpipe_reasons.specs.declared.explaining.Subject.{Subject}
use Rattle.pgpipe_reasons.specs.declared.explaining.Subject.TheVariants as subject
use Rattle.pgpipe_reasons.specs.declared.failure.Failure.{Failure}
use Rattle.pgpipe_reasons.specs.declared.failure.Failure.TheVariants as failure
use Rattle.pgpipe_reasons.specs.declared.reason.Reason.{Reason}
use Rattle.pgpipe_reasons.specs.declared.reason.Reason.TheVariants as reason

-- what was expected in a place of a stream that looks like this
abbrev pub message_reason : Option Place → Rule → Option Guess → Reason
message_reason None r guess = reason.Rule r
message_reason (Some p) r None = reason.Message p.number p.offset r
message_reason (Some p) r (Some guess) = reason.Guessed p.number p.offset r guess

-- what was expected in a place of a file
abbrev pub row_reason : Format → Option Place → Rule → Reason
row_reason from None r = reason.Rule r
row_reason format.Text (Some p) r = reason.TextRow p.number p.line p.offset r
row_reason format.Binary (Some p) r = reason.BinaryRow p.number p.offset r

-- what a fault expected of a stream, which with `true` is a client's
abbrev pub fault_rule : Bool → WireFault → Rule
fault_rule front f = if front then front_rule f else back_rule f

-- what a rest expected of a stream
abbrev pub rest_rule : Bool → Rule
rest_rule front = if front then rule.WholePacket else rule.WholeMessage

-- what a failure expected of a stream
abbrev pub stream_rule : Bool → Failure → Option Rule
stream_rule front (failure.Fault f) = Some (fault_rule front f)
stream_rule front (failure.Rest n) = Some (rest_rule front)
stream_rule front _ = None

-- what a failure expected of a row
abbrev pub row_rule_of : Failure → Option Rule
row_rule_of (failure.Text f) = Some (text_rule f)
row_rule_of (failure.Binary f) = Some (binary_rule f)
row_rule_of (failure.Row f) = Some (row_rule f)
row_rule_of _ = None

-- what a failure expected of words or of a script
abbrev pub rule_of : Failure → Option Rule
rule_of (failure.Options f) = Some (option_rule f)
rule_of failure.Delimiter = Some rule.OneByte
rule_of (failure.Check f) = Some (script_rule f)
rule_of _ = None

-- why a stream isn't shown whole
abbrev pub show_reason : Bool → Failure → Option Place → List ℕ → Option Reason
show_reason front f place first =
    option_map (λ r. message_reason place r (guess_of front first)) (stream_rule front f)

-- why a file isn't converted whole
abbrev pub convert_reason : Format → Failure → Option Place → Option Reason
convert_reason from f place = option_map (λ r. row_reason from place r) (row_rule_of f)

-- the carrier of a loop failed, where no file and no stream did
abbrev pub carrier_reason : Failure → Option Reason
carrier_reason failure.Device = Some reason.Carrier
carrier_reason _ = None

-- no client could be awaited on the port of a server, where no file and no stream failed
abbrev pub clients_reason : Failure → Option Reason
clients_reason failure.Device = Some reason.Clients
clients_reason _ = None

-- why a task failed whose words and script are right, by what it is about
abbrev pub subject_reason : Subject → Failure → Option Place → List ℕ → Option Reason
subject_reason (subject.Show front summary) f place first = show_reason front f place first
subject_reason (subject.Convert from to) f place first = convert_reason from f place
subject_reason (subject.Loop comments) f place first = carrier_reason f
subject_reason subject.Serve f place first = clients_reason f

-- the first of both, as a rule alone where words or a script are wrong
abbrev pub rule_first : Option Rule → Option Reason → Option Reason
rule_first (Some r) other = Some (reason.Rule r)
rule_first None other = other

-- why a task failed
abbrev pub task_reason : Subject → Failure → Option Place → List ℕ → Option Reason
task_reason s f place first = rule_first (rule_of f) (subject_reason s f place first)

-- what the stream of one side of a connection looks like, where its first byte is that of a frame
abbrev pub guess_at : ℕ → Bool → List ℕ → Option Guess
guess_at offset front first = if offset == 0 then side_guess front first else None

-- why the stream of one side of a connection isn't printed whole
abbrev pub side_reason : Bool → Rule → FramePlace → List ℕ → Reason
side_reason front r place first =
    message_reason (Some (record { number = place.number; line = 1; offset = place.offset })) r
    (guess_at place.offset front first)

-- why both sides of a connection aren't printed whole, by their places and first bytes
abbrev pub both_reason : Failure → BothPlaces → List ℕ → List ℕ → Option Reason
both_reason (failure.FrontRest n) places front back =
    Some (side_reason true (rest_rule true) places.front front)
both_reason (failure.FrontFault f) places front back =
    Some (side_reason true (fault_rule true f) places.front front)
both_reason (failure.BackRest n) places front back =
    Some (side_reason false (rest_rule false) places.back back)
both_reason (failure.BackFault f) places front back =
    Some (side_reason false (fault_rule false f) places.back back)
both_reason _ places front back = None
