use Rattle.printed_laws.proofs.RefusalLemmas.{has_no_system, has_no_system_of_check, is_unrefused, is_unrefused_check}
use Rattle.printed_laws.proofs.laws.one_reading_is_enough.Goals as goal

pub returns : goal.returns
returns c = record {
  answers = λ bytes checked system short x is. is_unrefused bytes checked system short x is;
  refuses = λ bytes checked refusal x is. has_no_system bytes checked refusal x is;
  checks = λ input script answer checked system short x is. is_unrefused_check input script answer checked system short x is;
  checks_none = λ input script answer checked refusal x is. has_no_system_of_check input script answer checked refusal x is;
}
