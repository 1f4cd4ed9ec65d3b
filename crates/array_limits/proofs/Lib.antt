mod UnitTests
