use Rattle.std.proofs.Common.{rules, ◌≡◌, MatchOption, false, Option, sym, subst}
use Rattle.std.specs.Fn.{FnOnceReturnsAtMut}
use Rattle.testing.proofs.holds.Goals as goal

pub returns-in-Some : goal.returns-in-Some
returns-in-Some g c = subst (λ (m : Option g.row.T.Denot). MatchOption m (c.says.result ≡ false) (λ it. (x : g.row.T.Denot) × FnOnceReturnsAtMut g.F.FnOnce c.args.says it c.says.result x)) (sym c.in-Some.is) (c.says.new.arg2, search rules)
