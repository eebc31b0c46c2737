mod Migrating
