use Rattle.std.proofs.Common.{◌≡◌, map, drop}
use Rattle.std.specs.List.{list_all, AllByRecursion}
use Rattle.dbus_auth.specs.Machines.{IsMechanism}
use Rattle.dbus_auth.specs.ClientViews.{client_mechanism, is_short}
use Rattle.dbus_auth.proofs.client.all_short.Given as goal

abbrev pub invariant-loop-mechanism : goal.invariant-loop-mechanism
invariant-loop-mechanism g l = record {
  short : list_all is_short (drop l.mechanism-index l.mechanisms) ≡ list_all is_short l.mechanisms;
  fits : AllByRecursion IsMechanism (map client_mechanism (drop l.mechanism-index l.mechanisms)) → AllByRecursion IsMechanism (map client_mechanism l.mechanisms);
}
